use Rattle.std.proofs.Common.{◌≡◌, take}
use Rattle.std.specs.Prelude.{option_map}
use Rattle.cjc_bytes.specs.Told.{break_of, spot_of}
use Rattle.cjc_subset.specs.Places.{at_class}
use Rattle.cjc_bytes.specs.Order.{FilePlace}
use Rattle.cjc_bytes.specs.Breaks.{IsFirstOf, each}
use Rattle.cjc_subset.specs.Names.{catch_breaks}
use Rattle.cjc_subset.proofs.naming.catches_break.Given as goal

abbrev pub invariant-loop-catch : goal.invariant-loop-catch
invariant-loop-catch l = (f : FilePlace) → spot_of l.spot ≡ at_class f l.class
    → IsFirstOf (each (λ _ x. catch_breaks l.world f l.class l.place l.method x) (take l.catch-index l.catches))
    (option_map break_of l.least)
