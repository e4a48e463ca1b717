use Rattle.std.proofs.Common.{take}
use Rattle.std.specs.Prelude.{option_map}
use Rattle.cjc_bytes.specs.Told.{break_of}
use Rattle.cjc_bytes.specs.Breaks.{IsFirstOf, each}
use Rattle.cjc_judge.specs.Rules.{foreign_break}
use Rattle.cjc_judge.proofs.judging.foreigns_break.Given as goal

abbrev pub invariant-loop-foreign : goal.invariant-loop-foreign
invariant-loop-foreign l = IsFirstOf (each (λ _ x. foreign_break l.world x) (take l.foreign-index l.foreigns)) (option_map break_of l.least)
