-- What a remainder says of a cut.
use Rattle.std.proofs.Common.{◌≡◌, ℕ, zero, suc, ◌+◌, ◌-◌, ◌/◌, ◌<◌, ◌^◌, refl, sym, ap, ◌∙◌, arith, ℤ, pos, negsuc}
use Rattle.std.proofs.Common.{◌-ℤ◌, ◌≤ℤ◌, ◌<ℤ◌, neg_ℤ}
use Rattle.std.specs.Int.RustNames.{int_div}
use Rattle.std.specs.Prelude.{unsigned_abs}
use Rattle.std.specs.Int.{Width, int_wrap, int_rem_euclid, cast_signed}
use Rattle.std.proofs.lemmas.Int.{ints, to_z_pos}
use Rattle.std.proofs.Math.Facts.{to_z-neg}
use mir.Val.{bits, hbits}

pub cut_low : (w : Width) (x r : ℤ) → r ≡ int_rem_euclid x (pos (2 ^ bits w)) → pos 0 ≤ℤ r → r <ℤ pos (2 ^ hbits w)
    → r ≡ int_wrap w x
unfolding int_wrap
cut_low w x (pos n) e a b =
    let small : n < 2 ^ hbits w = omega (arith, ints) in
    sym (to_z_pos w n small) ∙ ap (λ z. cast_signed w (unsigned_abs z)) e
cut_low w x (negsuc n) e a b = absurd (omega (arith, ints))

pub cut_high : (w : Width) (x r : ℤ) → 2 ^ bits w ≡ 2 ^ hbits w + 2 ^ hbits w → r ≡ int_rem_euclid x (pos (2 ^ bits w))
    → pos (2 ^ hbits w) ≤ℤ r → r <ℤ pos (2 ^ bits w) → (r -ℤ pos (2 ^ bits w)) ≡ int_wrap w x
unfolding int_wrap
cut_high w x (pos n) twice e a b =
    let k = 2 ^ bits w - suc n in
    let back : 2 ^ bits w - suc k ≡ n = omega (arith, ints) in
    let is : cast_signed w n ≡ negsuc k = ap (cast_signed w) (sym back) ∙ to_z-neg w k (omega (arith, ints)) in
    let same : (pos n -ℤ pos (2 ^ bits w)) ≡ negsuc k = omega (arith, ints) in
    same ∙ sym is ∙ ap (λ z. cast_signed w (unsigned_abs z)) e
cut_high w x (negsuc n) twice e a b = absurd (omega (arith, ints))

by_one : (n : ℕ) → n / 1 ≡ n
by_one n = omega arith

pub quotient-minus_one : (x : ℤ) → int_div x (negsuc 0) ≡ neg_ℤ x
quotient-minus_one (pos zero) = refl
quotient-minus_one (pos (suc n)) = ap (λ m. neg_ℤ (pos m)) (by_one (suc n))
quotient-minus_one (negsuc n) = ap (λ m. pos m) (by_one (suc n))
