use Rattle.std.proofs.Common.{◌≡◌, take}
use Rattle.std.specs.Prelude.{option_map}
use Rattle.cjc_bytes.specs.Told.{break_of, spot_of}
use Rattle.cjc_subset.specs.Checks.{field_breaks}
use Rattle.cjc_subset.specs.Places.{at_class}
use Rattle.cjc_bytes.specs.Order.{FilePlace}
use Rattle.cjc_bytes.specs.Breaks.{IsFirstOf, each}
use Rattle.cjc_subset.proofs.checking.fields_break.Given as goal

abbrev pub invariant-loop-place : goal.invariant-loop-place
invariant-loop-place l = (f : FilePlace) → spot_of l.spot ≡ at_class f l.class
    → IsFirstOf (each (λ i x. field_breaks l.settings f l.class i x) (take l.place l.class.fields))
    (option_map break_of l.least)
