-- Integers.
use Rattle.std.proofs.Common.{FitsSigned, arith, false, negsuc, pos, true, ℕ, ℤ, ◌<ℤ◌, ◌<◌, ◌^◌, ◌≡◌}
use Rattle.std.proofs.lemmas.Int.{ints}
use Rattle.std.specs.Int.{cast_unsigned, int_shr, w32, w8}
use Rattle.std.specs.Int.RustNames.{int_le}
use Rattle.std.specs.Int.Signed.{mag_shr}
use Rattle.std.specs.Prelude.{◌≤ℤ◌}

pub int_shr_fits : (z : ℤ) (k : ℕ) → FitsSigned w32 z → FitsSigned w32 (int_shr z k)
int_shr_fits z k f = let a = f.sfits in let b = mag_shr z (2 ^ k) in record { sfits = omega (arith, a, b) }

pub by_ends_32 : (z : ℤ) → negsuc 2147483647 ≤ℤ z → z ≤ℤ pos 2147483647 → FitsSigned w32 z
by_ends_32 (pos n) a b = record { sfits = omega (arith, ints) }
by_ends_32 (negsuc n) a b = record { sfits = omega (arith, ints) }

pub bits_below : (x : ℤ) → FitsSigned w32 x → cast_unsigned w32 x < 2 ^ 32
bits_below (pos n) f = omega (arith, ints)
bits_below (negsuc n) f = omega (arith, ints)

pub le_true : (a b : ℤ) → a ≤ℤ b → int_le a b ≡ true
le_true a b h = grind (arith, ints)

pub le_false : (a b : ℤ) → b <ℤ a → int_le a b ≡ false
le_false a b h = grind (arith, ints)

pub above_if : (a b : ℤ) → int_le a b ≡ true → a ≤ℤ b
above_if a b e = grind (arith, ints)

pub by_ends_8 : (z : ℤ) → negsuc 127 ≤ℤ z → z ≤ℤ pos 127 → FitsSigned w8 z
by_ends_8 (pos n) a b = omega (arith, ints)
by_ends_8 (negsuc n) a b = omega (arith, ints)
