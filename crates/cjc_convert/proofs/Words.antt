-- A word that stands for a number stands for what becomes of it.
use Rattle.std.proofs.Common.{◌≡◌, ℕ, suc, ◌+◌, ◌-◌, ◌*◌, ◌/◌, ◌%◌, ◌^◌, ◌<◌, ◌≤◌, refl, sym, ap, ◌∙◌, ⊎_elim, arith, ℤ, pos, negsuc, ◌+ℤ◌}
use Rattle.std.specs.Prelude.{◌≤ℤ◌, FitsSigned, unsigned_abs}
use Rattle.std.specs.Int.{Width, w16, w32, int_wrap, cast_signed}
use Rattle.std.proofs.lemmas.Int.{ints, int_wrap_fits, int_wrap-add_left, int_wrap-add_right, SFits-int_wrap, int_rem_euclid_is}
use Rattle.std.proofs.lemmas.Bool.{cases_lt}
use Rattle.std.proofs.Math.Facts.{to_z-neg}
use native.Mathlib.Nat.{div-add-mod', mod-lt, mul-le-mul_left}
use lib.Pow.{pow_pos}
use mir.Val.{bits, hbits}
use borrow.Author.Differences.{up, down, same_in, same_out, sum_is_lem}
use Rattle.cjc_ncode.specs.ByName.{wide, low_word}

-- a and b differ by a multiple of 2 ^ bits w
wrapped_same : (w : Width) (a b : ℤ) (j k : ℕ) → a +ℤ pos (j * 2 ^ bits w) ≡ b +ℤ pos (k * 2 ^ bits w) → int_wrap w a ≡ int_wrap w b
unfolding int_wrap
wrapped_same w a b j k e =
    let m = 2 ^ bits w in
    let some = pow_pos (bits w) in
    let t = down a + down b in
    let far : t * 1 ≤ t * m = mul-le-mul_left t some in
    let n = up a + (j + t) * m - down a in
    let from : (z : ℤ) (i : ℕ) → z +ℤ pos ((i + t) * m) ≡ pos n → int_wrap w z ≡ cast_signed w (n % m) = λ z i h. ap (λ r. cast_signed w (unsigned_abs r)) (int_rem_euclid_is z (pos m) m (i + t) n some refl h) in
    from a j (omega (arith, ints)) ∙ sym (from b k (omega (arith, ints)))

-- the signed value of some bits, and how many times the whole it lies below them
abbrev Read : Width → Type 0
Read w = (n : ℕ) → n < 2 ^ bits w → (j : ℕ) × (cast_signed w n +ℤ pos (j * 2 ^ bits w) ≡ pos n)

upper : (w : Width) (n : ℕ) → 2 ^ bits w ≡ 2 ^ hbits w + 2 ^ hbits w → 2 ^ hbits w ≤ n → n < 2 ^ bits w → cast_signed w n +ℤ pos (1 * 2 ^ bits w) ≡ pos n
upper w n twice le h =
    let k = 2 ^ bits w - suc n in
    let back : 2 ^ bits w - suc k ≡ n = omega arith in
    let is : cast_signed w n ≡ negsuc k = ap (cast_signed w) (sym back) ∙ to_z-neg w k (omega arith) in
    ap (λ z. z +ℤ pos (1 * 2 ^ bits w)) is ∙ omega (arith, ints)

read16 : Read w16
read16 n h = ⊎_elim (λ s. (0, omega (arith, ints))) (λ s. (1, upper w16 n refl s h)) (cases_lt n 32768)

read32 : Read w32
read32 n h = ⊎_elim (λ s. (0, omega (arith, ints))) (λ s. (1, upper w32 n refl s h)) (cases_lt n 2147483648)

left : (w : Width) → Read w → (z : ℤ) → (j : ℕ) × (k : ℕ) × (int_wrap w z +ℤ pos (j * 2 ^ bits w) ≡ z +ℤ pos (k * 2 ^ bits w))
unfolding int_wrap
left w read (pos a) =
    let m = 2 ^ bits w in
    let r = read (a % m) (mod-lt a (pow_pos (bits w))) in
    (r.0 + a / m, 0, omega (arith, same_in, same_out, sum_is_lem, r.1, div-add-mod' a m))
left w read (negsuc a) =
    let m = 2 ^ bits w in
    let small = mod-lt a (pow_pos (bits w)) in
    let r = read (m - 1 - a % m) (omega arith) in
    (r.0, a / m + 1, omega (arith, same_in, same_out, sum_is_lem, r.1, div-add-mod' a m))

-- what leaves 32 bits leaves the low word
pub low_word-wide : (z : ℤ) → low_word (wide z) ≡ low_word z
low_word-wide z =
    let l = left w32 read32 z in
    wrapped_same w16 (wide z) z (l.0 * 65536) (l.1 * 65536) (omega (arith, same_in, same_out, sum_is_lem, l.2))

pub low_word-add : (x y : ℤ) → low_word (low_word x +ℤ low_word y) ≡ low_word (wide (x +ℤ y))
low_word-add x y = int_wrap-add_left w16 x (low_word y) ∙ int_wrap-add_right w16 x y ∙ sym (low_word-wide (x +ℤ y))

-- a fit by its ends
pub fits16 : (z : ℤ) → negsuc 32767 ≤ℤ z → z ≤ℤ pos 32767 → FitsSigned w16 z
fits16 (pos n) a b = record { sfits = omega (arith, ints) }
fits16 (negsuc n) a b = record { sfits = omega (arith, ints) }

ends16 : (z : ℤ) → FitsSigned w16 z → (negsuc 32767 ≤ℤ z) × (z ≤ℤ pos 32767)
ends16 (pos n) f = let h = f.sfits in (omega (arith, ints), omega (arith, ints))
ends16 (negsuc n) f = let h = f.sfits in (omega (arith, ints), omega (arith, ints))

pub low_word_same : (z : ℤ) → negsuc 32767 ≤ℤ z → z ≤ℤ pos 32767 → low_word z ≡ z
low_word_same z a b = int_wrap_fits w16 z (fits16 z a b)

pub low_word_ends : (z : ℤ) → (negsuc 32767 ≤ℤ low_word z) × (low_word z ≤ℤ pos 32767)
low_word_ends z = ends16 (low_word z) (SFits-int_wrap w16 z)
