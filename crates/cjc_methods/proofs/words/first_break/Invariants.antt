use Rattle.std.proofs.Common.{take}
use Rattle.std.specs.Prelude.{All, IfNone, option_map}
use Rattle.cjc_bytes.specs.Told.{break_of}
use Rattle.cjc_bytes.specs.Breaks.{IsFirstOf, each}
use Rattle.cjc_int_package.specs.Modes.{Tables}
use Rattle.cjc_methods.specs.Ready.{AreTold}
use Rattle.cjc_methods.specs.Words.{HasRoom}
use Rattle.cjc_methods.specs.Working.Spots.{word_breaks_in}
use Rattle.cjc_methods.proofs.words.first_break.Given as goal

abbrev pub invariant-loop-member : goal.invariant-loop-member
invariant-loop-member l = record {
  first : (t : Tables) → AreTold l.world l.sources.codes.now l.sources.types.now l.sources.modes.now t
      → IsFirstOf (each (λ _ f. word_breaks_in t l.world f) (take l.member-index l.members))
      (option_map break_of l.least);
  room : IfNone l.least (All (HasRoom l.world l.sources.codes.now l.sources.types.now l.sources.modes.now)
      (take l.member-index l.members));
}
