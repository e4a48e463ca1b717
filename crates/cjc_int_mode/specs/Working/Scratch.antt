-- Whether a value of one word stands before the last parameter, as the code looks for it.
use Rattle.std.specs.Prelude.{Bool, true, false, List, [], ◌∷◌}
use Rattle.cjc_ncode.specs.LowerScript.Sorts.{Sort}
use Rattle.cjc_ncode.specs.IntCode.IntCode.{is_short}

-- whether one stands in front of these, or before the last of these
abbrev pub has_short_before : (front : Bool) → List Sort → Bool
has_short_before front [] = false
has_short_before true (s ∷ more) = true
has_short_before false (s ∷ more) = has_short_before (is_short s) more
