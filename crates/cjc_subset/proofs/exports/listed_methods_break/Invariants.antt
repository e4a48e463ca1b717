use Rattle.std.proofs.Common.{◌≡◌, ℕ, take}
use Rattle.std.specs.Prelude.{option_map}
use Rattle.cjc_bytes.specs.Told.{break_of, spot_of}
use Rattle.cjc_subset.specs.Exports.{listed_method_breaks}
use Rattle.cjc_bytes.specs.Order.{FilePlace}
use Rattle.cjc_bytes.specs.Breaks.{IsFirstOf, class_spot, each}
use Rattle.cjc_subset.proofs.exports.listed_methods_break.Given as goal

abbrev pub invariant-loop-place : goal.invariant-loop-place
invariant-loop-place l = (f : FilePlace) (n : ℕ) → spot_of l.spot ≡ class_spot f n l.class.name
    → IsFirstOf (each (λ i x. listed_method_breaks f n l.class i x) (take l.place l.class.methods))
    (option_map break_of l.least)
