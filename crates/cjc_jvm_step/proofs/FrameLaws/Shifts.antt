-- What the code's shift up gives.
use Rattle.std.proofs.Common.{◌≡◌, ℕ, ◌%◌, ◌^◌, ◌*◌, ◌<◌, ap, sym, ◌∙◌, arith, ℤ, pos, ◌*ℤ◌}
use Rattle.std.specs.Prelude.{FitsSigned}
use Rattle.std.specs.Int.{w32, int_wrap, int_shl, cast_signed, cast_unsigned}
use Rattle.std.proofs.lemmas.Int.{to_z-of_z, wrapping_mul-bits, int_wrap-mul_right}
use Rattle.std.proofs.lemmas.Nat.{pow_below}
use Rattle.cjc_script.proofs.BytesIntegers.{bits_below}

small : (n : ℕ) → n < 2 ^ 32 → n % 2 ^ 32 ≡ n
small n h = omega arith

wrapped : (n : ℕ) → n < 2 ^ 32 → int_wrap w32 (pos n) ≡ cast_signed w32 n
unfolding int_wrap
wrapped n h = ap (λ k. cast_signed w32 k) (small n h)

pub shifted_up : (x : ℤ) (k : ℕ) → FitsSigned w32 x → k < 32 → int_shl w32 x k ≡ int_wrap w32 (x *ℤ pos (2 ^ k))
shifted_up x k f h =
    let n = 2 ^ k in
    let below : n < 2 ^ 32 = pow_below k 32 h in
    wrapping_mul-bits w32 (cast_unsigned w32 x) n (bits_below x f) below
    ∙ ap (λ z. int_wrap w32 (z *ℤ cast_signed w32 n)) (to_z-of_z w32 x f)
    ∙ ap (λ z. int_wrap w32 (x *ℤ z)) (sym (wrapped n below))
    ∙ int_wrap-mul_right w32 x (pos n)
