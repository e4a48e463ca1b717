use Rattle.std.proofs.Common.{◌≡◌, take}
use Rattle.std.specs.Prelude.{option_map}
use Rattle.cjc_world.specs.Working.Known.{class_of}
use Rattle.cjc_bytes.specs.Told.{break_of, spot_of}
use Rattle.cjc_subset.specs.Overriding.{method_against}
use Rattle.cjc_subset.specs.Places.{at_class}
use Rattle.cjc_bytes.specs.Order.{FilePlace}
use Rattle.cjc_bytes.specs.Breaks.{IsFirstOf, each}
use Rattle.cjc_subset.proofs.overriding.methods_against.Given as goal

abbrev pub invariant-loop-place : goal.invariant-loop-place
invariant-loop-place l = (f : FilePlace) → spot_of l.spot ≡ at_class f l.class
    → IsFirstOf (each (λ i m. method_against f l.class (class_of l.known) i m) (take l.place l.class.methods))
    (option_map break_of l.least)
