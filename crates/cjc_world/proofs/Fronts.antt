-- Fronts of bytes.
use Rattle.std.proofs.Common.{◌≡◌, ℕ, ◌<◌, refl, ap, arith, Bool, true, false, List, length, take}
use Rattle.std.proofs.lemmas.Grind.{common_steps}
use Rattle.std.specs.Str.{bytes_eq}
use Rattle.cjc_bytes.proofs.Lists.{bytes_true}

pub front_too_short : (front bytes : List ℕ) → length bytes < length front → bytes_eq (take (length front) bytes) front
    ≡ false
front_too_short front bytes l = by (bytes_eq (take (length front) bytes) front) refl
  where
    by : (b : Bool) → bytes_eq (take (length front) bytes) front ≡ b → b ≡ false
    by false e = refl
    by true e = let same = ap length (bytes_true (take (length front) bytes) front e)
        in absurd (grind (arith, common_steps))
