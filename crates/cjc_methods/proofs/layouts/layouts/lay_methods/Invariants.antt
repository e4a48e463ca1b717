use Rattle.std.proofs.Common.{◌≡◌, take}
use Rattle.std.specs.Prelude.{option_map}
use Rattle.cjc_bytes.specs.Breaks.{IsFirstOf, each}
use Rattle.cjc_bytes.specs.Told.{break_of}
use Rattle.cjc_components.specs.Package.{Package}
use Rattle.cjc_methods.specs.Layouts.Working.Tries.{AreAll, AreFine, code_breaks}
use Rattle.cjc_methods.proofs.layouts.layouts.lay_methods.Given as goal

abbrev pub invariant-loop-k : goal.invariant-loop-k
invariant-loop-k l = record {
  first : (p : Package) → p.files ≡ l.world → IsFirstOf (each (code_breaks p l.members) (take l.k l.codes))
      (option_map break_of l.least);
  laid : AreFine (take l.k l.codes) → AreAll l.world (take l.k l.members) (take l.k l.codes) l.laid;
}
