use Rattle.std.proofs.Common.{◌≡◌, take}
use Rattle.std.specs.Prelude.{option_map}
use Rattle.cjc_subset.specs.Breaks.{break_of, spot_of}
use Rattle.cjc_subset.specs.Checks.{method_breaks}
use Rattle.cjc_subset.specs.Places.{FilePlace, IsFirstOf, at_class, each}
use Rattle.cjc_subset.proofs.checking.methods_break.Given as goal

abbrev pub invariant-loop-place : goal.invariant-loop-place
invariant-loop-place l = (f : FilePlace) → spot_of l.spot ≡ at_class f l.class → IsFirstOf (each (λ i x. method_breaks l.settings f l.class i x) (take l.place l.class.methods)) (option_map break_of l.least)
