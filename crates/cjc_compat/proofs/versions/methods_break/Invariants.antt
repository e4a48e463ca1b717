use Rattle.std.proofs.Common.{◌≡◌, ℕ, take}
use Rattle.std.specs.Prelude.{option_map}
use Rattle.cjc_export.specs.Bytes.Breaks.{IsFirstOf, at, each}
use Rattle.cjc_export.specs.Bytes.Order.{FilePlace}
use Rattle.cjc_export.specs.Bytes.Told.{break_of, spot_of}
use Rattle.cjc_compat.specs.Rules.{at_class, at_method, is_lost_method}
use Rattle.cjc_compat.proofs.versions.methods_break.Given as goal

abbrev pub invariant-loop-place : goal.invariant-loop-place
invariant-loop-place l = (f : FilePlace) (n : ℕ) → spot_of l.spot ≡ at_class f n l.old
    → IsFirstOf (each (λ i m. at (is_lost_method l.new.methods m) (at_method f n l.old i m) 743)
    (take l.place l.old.methods))
    (option_map break_of l.least)
