-- The low word of a result of 32 bits is the low word of the operation on the low words, for each
-- operation that commutes with it; and what 32, 16 and 8 bits leave of a number.
use Rattle.std.proofs.Common.{◌≡◌, ℕ, suc, ◌+◌, ◌-◌, ◌*◌, ◌/◌, ◌%◌, ◌^◌, ◌<◌, ◌≤◌, refl, sym, ap, subst, ◌∙◌, ⊎_elim}
use Rattle.std.proofs.Common.{arith, ℤ, pos, negsuc, neg_ℤ, ◌+ℤ◌, ◌-ℤ◌, ◌*ℤ◌, bit_and, bit_or, bit_xor}
use Rattle.std.specs.Prelude.{◌↔◌, ◌≤ℤ◌, FitsSigned, unsigned_abs, int_rem}
use Rattle.std.specs.Int.{Width, w8, w16, w32, int_wrap, cast_signed, cast_unsigned, int_shl, int_shr, int_bit_and}
use Rattle.std.specs.Int.{int_bit_or, int_bit_xor}
use Rattle.std.specs.Int.Signed.{mag, mag_rem, mag_shr}
use Rattle.std.proofs.lemmas.Int.{ints, int_wrap_fits, int_wrap-add_left, int_wrap-add_right, int_wrap-sub_right}
use Rattle.std.proofs.lemmas.Int.{int_wrap-mul_left, int_wrap-mul_right, SFits-int_wrap, int_rem_euclid_is, to_z-of_z}
use Rattle.std.proofs.lemmas.Int.{of_z-to_z}
use Rattle.std.proofs.lemmas.Nat.{and_mod, or_mod, xor_mod, or_lt, xor_lt}
use Rattle.std.specs.Int.Bits.{and_lt}
use Rattle.std.proofs.lemmas.Bool.{cases_lt}
use Rattle.std.proofs.Math.Facts.{to_z-neg}
use native.Mathlib.Nat.{add-mul-mod_self_right, div-add-mod', mod-lt, mul-le-mul_left}
use lib.Pow.{pow_pos}
use mir.Val.{bits, hbits}
use mir.ValLaws as laws
use borrow.Author.Differences.{up, down, same_in, same_out, sum_is_lem}
use Rattle.cjc_range.specs.Words.{wide, low_word, low_byte, shift_distance, IsInside}

-- a and b differ by a multiple of 2 ^ bits w
wrapped_same : (w : Width) (a b : ℤ) (j k : ℕ) → a +ℤ pos (j * 2 ^ bits w) ≡ b +ℤ pos (k * 2 ^ bits w)
    → int_wrap w a ≡ int_wrap w b
unfolding int_wrap
wrapped_same w a b j k e =
    let m = 2 ^ bits w in
    let some = pow_pos (bits w) in
    let t = down a + down b in
    let far : t * 1 ≤ t * m = mul-le-mul_left t some in
    let n = up a + (j + t) * m - down a in
    let from : (z : ℤ) (i : ℕ) → z +ℤ pos ((i + t) * m) ≡ pos n → int_wrap w z ≡ cast_signed w (n % m) =
    λ z i h. ap (λ r. cast_signed w (unsigned_abs r)) (int_rem_euclid_is z (pos m) m (i + t) n some refl h) in
    from a j (omega (arith, ints)) ∙ sym (from b k (omega (arith, ints)))

-- the signed value of some bits, and how many times the whole it lies below them
abbrev Read : Width → Type 0
Read w = (n : ℕ) → n < 2 ^ bits w → (j : ℕ) × (cast_signed w n +ℤ pos (j * 2 ^ bits w) ≡ pos n)

upper : (w : Width) (n : ℕ) → 2 ^ bits w ≡ 2 ^ hbits w + 2 ^ hbits w → 2 ^ hbits w ≤ n → n < 2 ^ bits w
    → cast_signed w n +ℤ pos (1 * 2 ^ bits w) ≡ pos n
upper w n twice le h =
    let k = 2 ^ bits w - suc n in
    let back : 2 ^ bits w - suc k ≡ n = omega arith in
    let is : cast_signed w n ≡ negsuc k = ap (cast_signed w) (sym back) ∙ to_z-neg w k (omega arith) in
    ap (λ z. z +ℤ pos (1 * 2 ^ bits w)) is ∙ omega (arith, ints)

read16 : Read w16
read16 n h = ⊎_elim (λ s. (0, omega (arith, ints))) (λ s. (1, upper w16 n refl s h)) (cases_lt n 32768)

read32 : Read w32
read32 n h = ⊎_elim (λ s. (0, omega (arith, ints))) (λ s. (1, upper w32 n refl s h)) (cases_lt n 2147483648)

left : (w : Width) → Read w → (z : ℤ) → (j : ℕ) × (k : ℕ) × (int_wrap w z +ℤ pos (j * 2 ^ bits w)
    ≡ z +ℤ pos (k * 2 ^ bits w))
unfolding int_wrap
left w read (pos a) =
    let m = 2 ^ bits w in
    let r = read (a % m) (mod-lt a (pow_pos (bits w))) in
    (r.0 + a / m, 0, omega (arith, same_in, same_out, sum_is_lem, r.1, div-add-mod' a m))
left w read (negsuc a) =
    let m = 2 ^ bits w in
    let small = mod-lt a (pow_pos (bits w)) in
    let r = read (m - 1 - a % m) (omega arith) in
    (r.0, a / m + 1, omega (arith, same_in, same_out, sum_is_lem, r.1, div-add-mod' a m))

-- what leaves 32 bits leaves the low word, and what leaves 16 bits the low byte
pub low_word-wide : (z : ℤ) → low_word (wide z) ≡ low_word z
low_word-wide z =
    let l = left w32 read32 z in
    wrapped_same w16 (wide z) z (l.0 * 65536) (l.1 * 65536) (omega (arith, same_in, same_out, sum_is_lem, l.2))

pub low_byte-low_word : (z : ℤ) → low_byte (low_word z) ≡ low_byte z
low_byte-low_word z =
    let l = left w16 read16 z in
    wrapped_same w8 (low_word z) z (l.0 * 256) (l.1 * 256) (omega (arith, same_in, same_out, sum_is_lem, l.2))

pub low_word-add : (x y : ℤ) → low_word (low_word x +ℤ low_word y) ≡ low_word (wide (x +ℤ y))
low_word-add x y = int_wrap-add_left w16 x (low_word y) ∙ int_wrap-add_right w16 x y ∙ sym (low_word-wide (x +ℤ y))

pub low_word-sub : (x y : ℤ) → low_word (low_word x -ℤ low_word y) ≡ low_word (wide (x -ℤ y))
low_word-sub x y = int_wrap-sub_right w16 (low_word x) y ∙ int_wrap-add_left w16 x _ ∙ sym (low_word-wide (x -ℤ y))

pub low_word-mul : (x y : ℤ) → low_word (low_word x *ℤ low_word y) ≡ low_word (wide (x *ℤ y))
low_word-mul x y = int_wrap-mul_left w16 x (low_word y) ∙ int_wrap-mul_right w16 x y ∙ sym (low_word-wide (x *ℤ y))

pub low_word-neg : (x : ℤ) → low_word (neg_ℤ (low_word x)) ≡ low_word (wide (neg_ℤ x))
low_word-neg x =
    let turned : (z : ℤ) → neg_ℤ z ≡ pos 0 -ℤ z = λ z. omega (arith, ints) in
    ap (λ (z : ℤ). low_word z) (turned (low_word x)) ∙ int_wrap-sub_right w16 (pos 0) x
    ∙ ap (λ (z : ℤ). low_word z) (sym (turned x)) ∙ sym (low_word-wide (neg_ℤ x))

-- by any distance
pub low_word-shl : (x : ℤ) (k : ℕ) → low_word (low_word x *ℤ pos (2 ^ k)) ≡ low_word (wide (x *ℤ pos (2 ^ k)))
low_word-shl x k = int_wrap-mul_left w16 x (pos (2 ^ k)) ∙ sym (low_word-wide (x *ℤ pos (2 ^ k)))

-- a fit by its ends
pub fits16 : (z : ℤ) → negsuc 32767 ≤ℤ z → z ≤ℤ pos 32767 → FitsSigned w16 z
fits16 (pos n) a b = record { sfits = omega (arith, ints) }
fits16 (negsuc n) a b = record { sfits = omega (arith, ints) }

fits32 : (z : ℤ) → negsuc 2147483647 ≤ℤ z → z ≤ℤ pos 2147483647 → FitsSigned w32 z
fits32 (pos n) a b = record { sfits = omega (arith, ints) }
fits32 (negsuc n) a b = record { sfits = omega (arith, ints) }

ends16 : (z : ℤ) → FitsSigned w16 z → (negsuc 32767 ≤ℤ z) × (z ≤ℤ pos 32767)
ends16 (pos n) f = let h = f.sfits in (omega (arith, ints), omega (arith, ints))
ends16 (negsuc n) f = let h = f.sfits in (omega (arith, ints), omega (arith, ints))

ends32 : (z : ℤ) → FitsSigned w32 z → (negsuc 2147483647 ≤ℤ z) × (z ≤ℤ pos 2147483647)
ends32 (pos n) f = let h = f.sfits in (omega (arith, ints), omega (arith, ints))
ends32 (negsuc n) f = let h = f.sfits in (omega (arith, ints), omega (arith, ints))

ends8 : (z : ℤ) → FitsSigned w8 z → (negsuc 127 ≤ℤ z) × (z ≤ℤ pos 127)
ends8 (pos n) f = let h = f.sfits in (omega (arith, ints), omega (arith, ints))
ends8 (negsuc n) f = let h = f.sfits in (omega (arith, ints), omega (arith, ints))

pub low_word_same : (z : ℤ) → negsuc 32767 ≤ℤ z → z ≤ℤ pos 32767 → low_word z ≡ z
low_word_same z a b = int_wrap_fits w16 z (fits16 z a b)

pub wide_same : (z : ℤ) → negsuc 2147483647 ≤ℤ z → z ≤ℤ pos 2147483647 → wide z ≡ z
wide_same z a b = int_wrap_fits w32 z (fits32 z a b)

pub low_word_ends : (z : ℤ) → (negsuc 32767 ≤ℤ low_word z) × (low_word z ≤ℤ pos 32767)
low_word_ends z = ends16 (low_word z) (SFits-int_wrap w16 z)

pub low_byte_ends : (z : ℤ) → (negsuc 127 ≤ℤ low_byte z) × (low_byte z ≤ℤ pos 127)
low_byte_ends z = ends8 (low_byte z) (SFits-int_wrap w8 z)

pub wide_ends : (z : ℤ) → (negsuc 2147483647 ≤ℤ wide z) × (wide z ≤ℤ pos 2147483647)
wide_ends z = ends32 (wide z) (SFits-int_wrap w32 z)

-- a number just outside the words stands at the other end
pub low_word_above : (n : ℕ) → 32768 ≤ n → n ≤ 65535 → low_word (pos n) ≡ negsuc (65535 - n)
low_word_above n a b =
    wrapped_same w16 (pos n) (negsuc (65535 - n)) 0 1 (omega (arith, ints))
    ∙ low_word_same (negsuc (65535 - n)) (omega (arith, ints)) (omega (arith, ints))

pub low_word_below : low_word (negsuc 32768) ≡ pos 32767
low_word_below =
    wrapped_same w16 (negsuc 32768) (pos 32767) 1 0 (omega (arith, ints))
    ∙ low_word_same (pos 32767) (omega (arith, ints)) (omega (arith, ints))

-- the low word of a number that is given by its bits
pub low_word-cast : (n : ℕ) → n < 2 ^ 32 → low_word (cast_signed w32 n) ≡ cast_signed w16 (n % 2 ^ 16)
unfolding int_wrap
low_word-cast n h =
    let r = read32 n h in
    wrapped_same w16 (cast_signed w32 n) (pos n) (r.0 * 65536) 0 (omega (arith, same_in, same_out, sum_is_lem, r.1))

-- ---- bits

-- the bits of a number of 32 bits
bits_small : (x : ℤ) → FitsSigned w32 x → cast_unsigned w32 x < 2 ^ 32
bits_small x f = (laws.of_z_fits w32 x f).fits

-- the bits of a word are the low bits of its number
low_bits : (x : ℤ) → FitsSigned w32 x → cast_unsigned w16 (low_word x) ≡ cast_unsigned w32 x % 2 ^ 16
low_bits x f =
    ap (λ z. cast_unsigned w16 (low_word z)) (sym (to_z-of_z w32 x f))
    ∙ ap (cast_unsigned w16) (low_word-cast (cast_unsigned w32 x) (bits_small x f))
    ∙ of_z-to_z w16 (cast_unsigned w32 x % 2 ^ 16) (mod-lt (cast_unsigned w32 x) (pow_pos 16))

-- an operation on bits that no bit leaves
low_word-bits : (f : ℕ → ℕ → ℕ) → ((a b : ℕ) → f a b % 2 ^ 16 ≡ f (a % 2 ^ 16) (b % 2 ^ 16)) → ((a b : ℕ) → a < 2 ^ 32
    → b < 2 ^ 32 → f a b < 2 ^ 32) → (x y : ℤ) → FitsSigned w32 x → FitsSigned w32 y
    → cast_signed w16 (f (cast_unsigned w16 (low_word x)) (cast_unsigned w16 (low_word y)))
    ≡ low_word (cast_signed w32 (f (cast_unsigned w32 x) (cast_unsigned w32 y)))
low_word-bits f splits stays x y fx fy =
    ap (λ n. cast_signed w16 (f n (cast_unsigned w16 (low_word y)))) (low_bits x fx)
    ∙ ap (λ n. cast_signed w16 (f (cast_unsigned w32 x % 2 ^ 16) n)) (low_bits y fy)
    ∙ ap (cast_signed w16) (sym (splits (cast_unsigned w32 x) (cast_unsigned w32 y)))
    ∙ sym (low_word-cast (f (cast_unsigned w32 x) (cast_unsigned w32 y)) (stays _ _ (bits_small x fx)
    (bits_small y fy)))

pub low_word-and : (x y : ℤ) → FitsSigned w32 x → FitsSigned w32 y → int_bit_and w16 (low_word x) (low_word y)
    ≡ low_word (int_bit_and w32 x y)
low_word-and x y f g = low_word-bits bit_and (λ a b. and_mod a b 16) (λ a b h k. and_lt 32 a b h k) x y f g

pub low_word-or : (x y : ℤ) → FitsSigned w32 x → FitsSigned w32 y → int_bit_or w16 (low_word x) (low_word y)
    ≡ low_word (int_bit_or w32 x y)
low_word-or x y f g = low_word-bits bit_or (λ a b. or_mod a b 16) (λ a b h k. or_lt 32 a b h k) x y f g

pub low_word-xor : (x y : ℤ) → FitsSigned w32 x → FitsSigned w32 y → int_bit_xor w16 (low_word x) (low_word y)
    ≡ low_word (int_bit_xor w32 x y)
low_word-xor x y f g = low_word-bits bit_xor (λ a b. xor_mod a b 16) (λ a b h k. xor_lt 32 a b h k) x y f g

-- ---- shifts up, as std has them

-- the bits of a number are those of the number and some multiple of the whole
bits_of : (w : Width) (x : ℤ) (n : ℕ) → mag x < 2 ^ bits w → (j : ℕ)
    × (pos (cast_unsigned w x * n) ≡ x *ℤ pos n +ℤ pos (j * 2 ^ bits w))
bits_of w (pos a) n h = (0, omega (arith, ints))
bits_of w (negsuc a) n h = (
  n,
  from_sum ((2 ^ bits w - suc a) * n) (suc a * n) (n * 2 ^ bits w)
      (sums (2 ^ bits w - suc a) a n (2 ^ bits w) (omega (arith, h))),
)
  where
    from_sum : (p q r : ℕ) → p + q ≡ r → pos p ≡ neg_ℤ (pos q) +ℤ pos r
    from_sum p q r e = omega (arith, ints, e)

    spread : (d a n : ℕ) → d * n + suc a * n ≡ n * (d + suc a)
    spread d a n = omega arith

    sums : (d a n m : ℕ) → d + suc a ≡ m → d * n + suc a * n ≡ n * m
    sums d a n m e = spread d a n ∙ ap (λ (k : ℕ). n * k) e

pub int_shl-wide : (x : ℤ) (k : ℕ) → FitsSigned w32 x → int_shl w32 x k ≡ wide (x *ℤ pos (2 ^ k))
unfolding int_wrap
int_shl-wide x k f =
    let j = bits_of w32 x (2 ^ k) (let a = f.sfits in omega (arith, a)) in
    wrapped_same w32 (pos (cast_unsigned w32 x * 2 ^ k)) (x *ℤ pos (2 ^ k)) 0 j.0 (let e = j.1
    in omega (arith, ints, e))

pub int_shl-low_word : (x : ℤ) (k : ℕ) → FitsSigned w16 x → int_shl w16 x k ≡ low_word (x *ℤ pos (2 ^ k))
unfolding int_wrap
int_shl-low_word x k f =
    let j = bits_of w16 x (2 ^ k) (let a = f.sfits in omega (arith, a)) in
    wrapped_same w16 (pos (cast_unsigned w16 x * 2 ^ k)) (x *ℤ pos (2 ^ k)) 0 j.0 (let e = j.1
    in omega (arith, ints, e))

-- ---- fits

pub wide_fits : (z : ℤ) → FitsSigned w32 (wide z)
wide_fits z = SFits-int_wrap w32 z

pub low_word_fits : (z : ℤ) → FitsSigned w16 (low_word z)
low_word_fits z = SFits-int_wrap w16 z

pub low_byte_fits : (z : ℤ) → FitsSigned w8 (low_byte z)
low_byte_fits z = SFits-int_wrap w8 z

-- what fits 32 bits stays as it is, and so for 16
pub wide_fixed : (z : ℤ) → FitsSigned w32 z → wide z ≡ z
wide_fixed z f = int_wrap_fits w32 z f

pub low_word_fixed : (z : ℤ) → FitsSigned w16 z → low_word z ≡ z
low_word_fixed z f = int_wrap_fits w16 z f

pub low_byte_fixed : (z : ℤ) → FitsSigned w8 z → low_byte z ≡ z
low_byte_fixed z f = int_wrap_fits w8 z f

-- a remainder and a shift down are no larger than the number
pub int_rem_fits : (x y : ℤ) → FitsSigned w32 x → FitsSigned w32 (int_rem x y)
int_rem_fits x y f = let a = f.sfits in let b = mag_rem x y in record { sfits = omega (arith, a, b) }

pub int_shr_fits : (x : ℤ) (k : ℕ) → FitsSigned w32 x → FitsSigned w32 (int_shr x k)
int_shr_fits x k f = let a = f.sfits in let b = mag_shr x (2 ^ k) in record { sfits = omega (arith, a, b) }

-- ---- distances

mod_low : (a : ℕ) → a % 2 ^ 16 % 32 ≡ a % 32
mod_low a =
    let e : a ≡ a % 65536 + a / 65536 * 2048 * 32 = omega (arith, div-add-mod' a 65536) in
    sym (ap (λ n. n % 32) e ∙ add-mul-mod_self_right (a % 65536) (a / 65536 * 2048) 32)

bits_low : (x : ℤ) → FitsSigned w32 x → cast_unsigned w32 (low_word x) % 2 ^ 16 ≡ cast_unsigned w32 x % 2 ^ 16
bits_low x f =
    let small = (low_word_fits x).sfits in
    let fits : FitsSigned w32 (low_word x) = record { sfits = omega (arith, small) } in
    sym (low_bits (low_word x) fits) ∙ ap (cast_unsigned w16) (low_word_fixed (low_word x) (low_word_fits x))
    ∙ low_bits x f

-- the distance of a shift comes from the low word
pub shift_distance-low_word : (x : ℤ) → FitsSigned w32 x → shift_distance (low_word x) ≡ shift_distance x
shift_distance-low_word x f = sym (mod_low (cast_unsigned w32 (low_word x))) ∙ ap (λ n. n % 32) (bits_low x f)
    ∙ mod_low (cast_unsigned w32 x)

-- ---- indices

index_up : (n i : ℕ) → n ≤ 32767 → i ≤ 65535 → (IsInside n (low_word (pos i)) → i < n)
    × (i < n → IsInside n (low_word (pos i)))
index_up n i few within = ⊎_elim small large (cases_lt i 32768)
  where
    both : (z : ℤ) → low_word (pos i) ≡ z → (IsInside n z → i < n) × (i < n → IsInside n z)
        → (IsInside n (low_word (pos i)) → i < n) × (i < n → IsInside n (low_word (pos i)))
    both z e h = subst (λ w. (IsInside n w → i < n) × (i < n → IsInside n w)) (sym e) h

    small : i < 32768 → (IsInside n (low_word (pos i)) → i < n) × (i < n → IsInside n (low_word (pos i)))
    small lt = both (pos i) (low_word_same (pos i) (omega (arith, ints)) (omega (arith, ints))) (λ h. h, λ h. h)

    large : 32768 ≤ i → (IsInside n (low_word (pos i)) → i < n) × (i < n → IsInside n (low_word (pos i)))
    large le = both (negsuc (65535 - i)) (low_word_above i le within) (λ h. absurd h, λ h. absurd (omega arith))

index_down : (n i : ℕ) → n ≤ 32767 → i ≤ 32768 → IsInside n (low_word (negsuc i)) → ⊥
index_down n i few within h = ⊎_elim small last (cases_lt i 32768)
  where
    small : i < 32768 → ⊥
    small lt = subst (IsInside n) (low_word_same (negsuc i) (omega (arith, ints)) (omega (arith, ints))) h

    last : 32768 ≤ i → ⊥
    last le =
        let is : i ≡ 32768 = omega arith in
        let inside : 32767 < n = subst (IsInside n) (ap (λ k. low_word (negsuc k)) is ∙ low_word_below) h in
        omega (arith, few, inside)

-- an index from -32,769 to 65,535 is inside an array of at most 32,767 elements exactly where its low word is
pub index-low_word : (n : ℕ) (i : ℤ) → n ≤ 32767 → negsuc 32768 ≤ℤ i → i ≤ℤ pos 65535 → IsInside n (low_word i)
    ↔ IsInside n i
index-low_word n (pos i) few low high = let h = index_up n i few (omega (arith, ints, high)) in (h.0, h.1)
index-low_word n (negsuc i) few low high = (λ h. index_down n i few (omega (arith, ints, low)) h, λ h. absurd h)
