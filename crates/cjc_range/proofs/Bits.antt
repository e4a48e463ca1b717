-- What the rows of and, or and xor hold, over any spans of 32 bits.
use Rattle.std.proofs.Common.{MatchBool, bit_and, bit_or, bit_xor, ◌-ℤ◌, ◌-◌, to_z, of_z, ◌≡◌, zero, suc, ◌≤◌, ◌<ℤ◌}
use Rattle.std.proofs.Common.{neg_ℤ, max, ◌/◌, ℕ, ◌+◌, ◌*◌, ◌<◌, ◌^◌, ℤ, pos, negsuc, ◌≤ℤ◌, ◌⊎◌, Bool, true, false}
use Rattle.std.proofs.Common.{cond, ◌&&◌, int_le, nat_lt, FitsSigned, refl, ◌∙◌, ap, subst, inl, inr, arith}
use Rattle.std.specs.Int.{w32, int_min, int_bit_and, int_bit_or, int_bit_xor, IsPowerOfTwo}
use Rattle.std.specs.Int.Signed.{mag}
use Rattle.std.specs.Int.Bits.{or_add_and, xor_add_and}
use Rattle.std.proofs.Math.Pow.{pow_mono}
use Rattle.std.proofs.lemmas.Int.{ints, clamps, to_z-of_z, to_z_pos}
use Rattle.std.proofs.lemmas.Nat.{and_comm, or_comm, xor_comm, and_le_l, and_le_r, and-not, or_lt, xor_lt}
use Rattle.std.proofs.lemmas.Bool.{cases_lt}
use Rattle.std.proofs.lemmas.Bool.Decides.{nat_tests}
use Rattle.cjc_range.specs.Span.{Span, span, Holds, IsWord, full}
use Rattle.cjc_range.specs.Rows.{HasBits, EndsHaveBits, below_power, of_bits, IsOrRow, IsAndRow, greatest_mag}
use Rattle.cjc_range.specs.Rows.{bits_from, least_bits, or_row, and_row}
use Rattle.cjc_range.proofs.Spans.{fits_word}
use Rattle.cjc_range.proofs.Order.{low_held, high_held}
use Rattle.cjc_range.proofs.Rounding.{spans_same}

-- ---- one number

pub word_held : (s : Span) (x : ℤ) → IsWord s → Holds s x → Holds full x
word_held s x w h = let a = h.above in let b = h.below in let c = w.within.low in let d = w.within.high
    in record { above = omega (arith, ints, a, c); below = omega (arith, ints, b, d) }

pub word_fits : (s : Span) (x : ℤ) → IsWord s → Holds s x → FitsSigned w32 x
word_fits s x w h = fits_word x (word_held s x w h)

and_pos : (m n : ℕ) → m < 2147483648 → to_z w32 (bit_and m n) ≡ pos (bit_and m n)
and_pos m n h = let e = and_le_l m n in to_z_pos w32 (bit_and m n) (omega (arith, h, e))

and_left : (x y : ℤ) → FitsSigned w32 x → pos 0 ≤ℤ x → Holds (span (pos 0) x) (int_bit_and w32 x y)
and_left (pos m) y f h = let a = f.sfits in let e = and_le_l m (of_z w32 y)
    in rw (and_pos m (of_z w32 y) (omega (arith, a))) (record {
      above = omega (arith, ints);
      below = omega (arith, ints, e);
    })
and_left (negsuc m) y f h = absurd (omega (arith, ints, h))

and_swap : (x y : ℤ) → int_bit_and w32 x y ≡ int_bit_and w32 y x
and_swap x y = ap (λ (n : ℕ). to_z w32 n) (and_comm (of_z w32 x) (of_z w32 y))

or_swap : (x y : ℤ) → int_bit_or w32 x y ≡ int_bit_or w32 y x
or_swap x y = ap (λ (n : ℕ). to_z w32 n) (or_comm (of_z w32 x) (of_z w32 y))

xor_swap : (x y : ℤ) → int_bit_xor w32 x y ≡ int_bit_xor w32 y x
xor_swap x y = ap (λ (n : ℕ). to_z w32 n) (xor_comm (of_z w32 x) (of_z w32 y))

and_right : (x y : ℤ) → FitsSigned w32 y → pos 0 ≤ℤ y → Holds (span (pos 0) y) (int_bit_and w32 x y)
and_right x y f h = rw (and_swap x y) (and_left y x f h)

-- the bits of a number and of a negative one
and_negative : (m n : ℕ) → m < 4294967296 → n < 4294967296 → bit_and m (4294967296 - suc n) + bit_and m n ≡ m
and_negative m n h k =
    let q : 2 ^ 32 - 1 - n ≡ 4294967296 - suc n = omega arith in
    let b = rw q at (and-not 32 n m k h) in
    let c = and_comm m (4294967296 - suc n) in
    let d = and_comm m n in
    omega (arith, b, c, d)

-- the bits of two negative numbers
and_negatives : (m n : ℕ) → m < 4294967296 → n < 4294967296 → bit_and (4294967296 - suc m) (4294967296 - suc n) + suc
    (bit_or m n) ≡ 4294967296
and_negatives m n h k =
    let p : 2 ^ 32 - 1 - m ≡ 4294967296 - suc m = omega arith in
    let q : 2 ^ 32 - 1 - n ≡ 4294967296 - suc n = omega arith in
    let a = rw (p, q) at (and-not 32 m (2 ^ 32 - 1 - n) h (omega (arith, k))) in
    let b = rw q at (and-not 32 n m k h) in
    let c = and_comm m (4294967296 - suc n) in
    let d = or_add_and m n in
    let e = and_comm n m in
    omega (arith, a, b, c, d, e)

-- what the bits of a number of 32 bits read as
back : (z : ℤ) (n : ℕ) → mag z < 2147483648 → n ≡ of_z w32 z → to_z w32 n ≡ z
back z n h e = ap (λ (n : ℕ). to_z w32 n) e ∙ to_z-of_z w32 z (record { sfits = omega (arith, h) })

-- the three operations on numbers by their signs
abbrev Small : ℕ → Type 0
Small n = n < 2147483648

and_down_down : (m n : ℕ) → Small m → Small n → int_bit_and w32 (negsuc m) (negsuc n) ≡ negsuc (bit_or m n)
and_down_down m n h k =
    let r = or_lt 31 m n h k in
    let e = and_negatives m n (omega (arith, h)) (omega (arith, k)) in
    back (negsuc (bit_or m n)) _ r (omega (arith, e))

or_up_up : (m n : ℕ) → Small m → Small n → int_bit_or w32 (pos m) (pos n) ≡ pos (bit_or m n)
or_up_up m n h k = back (pos (bit_or m n)) (bit_or m n) (or_lt 31 m n h k) refl

or_up_down : (m n : ℕ) → Small m → Small n → int_bit_or w32 (pos m) (negsuc n) ≡ negsuc (n - bit_and m n)
or_up_down m n h k =
    let a = and_negative m n (omega (arith, h)) (omega (arith, k)) in
    let b = or_add_and m (4294967296 - suc n) in
    let c = and_le_r m n in
    back (negsuc (n - bit_and m n)) _ (omega (arith, k)) (omega (arith, a, b, c, k))

or_down_down : (m n : ℕ) → Small m → Small n → int_bit_or w32 (negsuc m) (negsuc n) ≡ negsuc (bit_and m n)
or_down_down m n h k =
    let a = and_negatives m n (omega (arith, h)) (omega (arith, k)) in
    let b = or_add_and (4294967296 - suc m) (4294967296 - suc n) in
    let c = or_add_and m n in
    let d = and_le_l m n in
    back (negsuc (bit_and m n)) _ (omega (arith, h, d)) (omega (arith, a, b, c, d, h, k))

xor_up_up : (m n : ℕ) → Small m → Small n → int_bit_xor w32 (pos m) (pos n) ≡ pos (bit_xor m n)
xor_up_up m n h k = back (pos (bit_xor m n)) (bit_xor m n) (xor_lt 31 m n h k) refl

xor_up_down : (m n : ℕ) → Small m → Small n → int_bit_xor w32 (pos m) (negsuc n) ≡ negsuc (bit_xor m n)
xor_up_down m n h k =
    let a = and_negative m n (omega (arith, h)) (omega (arith, k)) in
    let b = xor_add_and m (4294967296 - suc n) in
    let c = xor_add_and m n in
    let d = xor_lt 31 m n h k in
    back (negsuc (bit_xor m n)) _ d (omega (arith, a, b, c, d, k))

xor_down_down : (m n : ℕ) → Small m → Small n → int_bit_xor w32 (negsuc m) (negsuc n) ≡ pos (bit_xor m n)
xor_down_down m n h k =
    let a = and_negatives m n (omega (arith, h)) (omega (arith, k)) in
    let b = xor_add_and (4294967296 - suc m) (4294967296 - suc n) in
    let c = or_add_and m n in
    let e = xor_add_and m n in
    let d = xor_lt 31 m n h k in
    back (pos (bit_xor m n)) _ d (omega (arith, a, b, c, d, e, h, k))

-- a result has no more bits than both operands, and no sign where they have none
record Keeps (f : ℤ → ℤ → ℤ) (x y : ℤ) : Type 0 where
  bits : (k : ℕ) → k ≤ 31 → mag x < 2 ^ k → mag y < 2 ^ k → mag (f x y) < 2 ^ k
  sign : pos 0 ≤ℤ x → pos 0 ≤ℤ y → pos 0 ≤ℤ f x y

top : (k : ℕ) → k ≤ 31 → 2 ^ k ≤ 2147483648
top k small = pow_mono {i = k} {j = 31} small

and_keeps : (x y : ℤ) → FitsSigned w32 x → FitsSigned w32 y → Keeps (λ x y. int_bit_and w32 x y) x y
and_keeps (pos m) y f g = let a = f.sfits in let e = and_le_l m (of_z w32 y) in let i = and_pos m (of_z w32 y) a
    in record { bits = λ k s h l. rw i (omega (arith, h, e)); sign = λ h l. rw i (omega (arith, ints)) }
and_keeps (negsuc m) (pos n) f g = let a = g.sfits in let e = and_le_l n (of_z w32 (negsuc m)) in let i =
    and_swap (negsuc m) (pos n) ∙ and_pos n (of_z w32 (negsuc m)) a
    in record { bits = λ k s h l. rw i (omega (arith, l, e)); sign = λ h l. rw i (omega (arith, ints)) }
and_keeps (negsuc m) (negsuc n) f g = let i = and_down_down m n f.sfits g.sfits
    in record { bits = λ k s h l. rw i (or_lt k m n h l); sign = λ h l. absurd (omega (arith, ints, h)) }

or_keeps : (x y : ℤ) → FitsSigned w32 x → FitsSigned w32 y → Keeps (λ x y. int_bit_or w32 x y) x y
or_keeps (pos m) (pos n) f g = let i = or_up_up m n f.sfits g.sfits
    in record { bits = λ k s h l. rw i (or_lt k m n h l); sign = λ h l. rw i (omega (arith, ints)) }
or_keeps (pos m) (negsuc n) f g = let i = or_up_down m n f.sfits g.sfits
    in record { bits = λ k s h l. rw i (omega (arith, l)); sign = λ h l. absurd (omega (arith, ints, l)) }
or_keeps (negsuc m) (pos n) f g = let i = or_swap (negsuc m) (pos n) ∙ or_up_down n m g.sfits f.sfits
    in record { bits = λ k s h l. rw i (omega (arith, h)); sign = λ h l. absurd (omega (arith, ints, h)) }
or_keeps (negsuc m) (negsuc n) f g = let i = or_down_down m n f.sfits g.sfits in let e = and_le_l m n
    in record { bits = λ k s h l. rw i (omega (arith, h, e)); sign = λ h l. absurd (omega (arith, ints, h)) }

xor_keeps : (x y : ℤ) → FitsSigned w32 x → FitsSigned w32 y → Keeps (λ x y. int_bit_xor w32 x y) x y
xor_keeps (pos m) (pos n) f g = let i = xor_up_up m n f.sfits g.sfits
    in record { bits = λ k s h l. rw i (xor_lt k m n h l); sign = λ h l. rw i (omega (arith, ints)) }
xor_keeps (pos m) (negsuc n) f g = let i = xor_up_down m n f.sfits g.sfits
    in record { bits = λ k s h l. rw i (xor_lt k m n h l); sign = λ h l. absurd (omega (arith, ints, l)) }
xor_keeps (negsuc m) (pos n) f g = let i = xor_swap (negsuc m) (pos n) ∙ xor_up_down n m g.sfits f.sfits
    in record { bits = λ k s h l. rw i (xor_lt k n m l h); sign = λ h l. absurd (omega (arith, ints, h)) }
xor_keeps (negsuc m) (negsuc n) f g = let i = xor_down_down m n f.sfits g.sfits
    in record { bits = λ k s h l. rw i (xor_lt k m n h l); sign = λ h l. absurd (omega (arith, ints, h)) }

-- ---- numbers of k bits

pub has_bits : (k : ℕ) (z : ℤ) → mag z < 2 ^ k → HasBits k z
has_bits k (pos n) h = record { above = omega (arith, ints, h); below = omega (arith, ints, h) }
has_bits k (negsuc n) h = record { above = omega (arith, ints, h); below = omega (arith, ints, h) }

pub bits_had : (k : ℕ) (z : ℤ) → HasBits k z → mag z < 2 ^ k
bits_had k (pos n) h = let a = h.below in omega (arith, ints, a)
bits_had k (negsuc n) h = let a = h.above in omega (arith, ints, a)

held_bits : (k : ℕ) (s : Span) (x : ℤ) → HasBits k s.low → HasBits k s.high → Holds s x → mag x < 2 ^ k
held_bits k s x h i held = bits_had k x (let a = h.above in let b = i.below in let c = held.above in let d = held.below
    in record { above = omega (arith, ints, a, c); below = omega (arith, ints, b, d) })

ends_from : (s t : Span) (k : ℕ) → greatest_mag s t < 2 ^ k → EndsHaveBits k s t
ends_from s t k h = record {
  low_left = has_bits k s.low (omega (arith, h));
  high_left = has_bits k s.high (omega (arith, h));
  low_right = has_bits k t.low (omega (arith, h));
  high_right = has_bits k t.high (omega (arith, h));
}

ends_give : (s t : Span) (k : ℕ) → EndsHaveBits k s t → greatest_mag s t < 2 ^ k
ends_give s t k h =
    let a = bits_had k s.low h.low_left in let b = bits_had k s.high h.high_left in let c = bits_had k t.low h.low_right
    in let d = bits_had k t.high h.high_right in
    omega (arith, a, b, c, d)

pub greatest_small : (s t : Span) → IsWord s → IsWord t → greatest_mag s t < 2147483648
greatest_small s t w x =
    let a = (word_fits s s.low w (low_held s w)).sfits in let b = (word_fits s s.high w (high_held s w)).sfits in
    let c = (word_fits t t.low x (low_held t x)).sfits in let d = (word_fits t t.high x (high_held t x)).sfits in
    omega (arith, a, b, c, d)

-- the lower end by the signs
below_cases : (s t : Span) (p : ℕ) (z : ℤ) → Holds (span (neg_ℤ (pos p)) (pos p -ℤ pos 1)) z
    → (pos 0 ≤ℤ s.low → pos 0 ≤ℤ t.low → pos 0 ≤ℤ z) → Holds (below_power s t p) z
below_cases s t p z h up = go (int_le (pos 0) s.low) (int_le (pos 0) t.low) refl refl
  where
    go : (b c : Bool) → int_le (pos 0) s.low ≡ b → int_le (pos 0) t.low ≡ c
        → Holds (span (cond (b && c) (pos 0) (neg_ℤ (pos p))) (pos p -ℤ pos 1)) z
    go true true e f = record { above = up (grind (arith, ints, e)) (grind (arith, ints, f)); below = h.below }
    go true false e f = h
    go false c e f = h

-- the row holds what such an operation gives
or_row_holds : (f : ℤ → ℤ → ℤ) (s t r : Span) (x y : ℤ) → IsWord s → IsWord t → IsOrRow s t r → Holds s x → Holds t y
    → Keeps f x y → Holds r (f x y)
or_row_holds f s t r x y ws wt m h k keeps =
    let small = m.least 31 (ends_from s t 31 (greatest_small s t ws wt)) in
    let some = keeps.bits m.bits small (held_bits m.bits s x m.ends.low_left m.ends.high_left h)
    (held_bits m.bits t y m.ends.low_right m.ends.high_right k) in
    rw m.is (below_cases s t (2 ^ m.bits) (f x y) (has_bits m.bits (f x y) some)
    (λ p q. keeps.sign (let a = h.above in omega (arith, ints, a, p)) (let a = k.above in omega (arith, ints, a, q))))

pub or_holds : (s t r : Span) (x y : ℤ) → IsWord s → IsWord t → IsOrRow s t r → Holds s x → Holds t y
    → Holds r (int_bit_or w32 x y)
or_holds s t r x y ws wt m h k = or_row_holds (λ x y. int_bit_or w32 x y) s t r x y ws wt m h k
    (or_keeps x y (word_fits s x ws h) (word_fits t y wt k))

pub xor_holds : (s t r : Span) (x y : ℤ) → IsWord s → IsWord t → IsOrRow s t r → Holds s x → Holds t y
    → Holds r (int_bit_xor w32 x y)
xor_holds s t r x y ws wt m h k = or_row_holds (λ x y. int_bit_xor w32 x y) s t r x y ws wt m h k
    (xor_keeps x y (word_fits s x ws h) (word_fits t y wt k))

pub and_holds : (s t r : Span) (x y : ℤ) → IsWord s → IsWord t → IsAndRow s t r → Holds s x → Holds t y
    → Holds r (int_bit_and w32 x y)
and_holds s t r x y ws wt row h k = go (int_le (pos 0) s.low) (int_le (pos 0) t.low) refl refl row
  where
    fx : FitsSigned w32 x
    fx = word_fits s x ws h

    fy : FitsSigned w32 y
    fy = word_fits t y wt k

    x_up : int_le (pos 0) s.low ≡ true → pos 0 ≤ℤ x
    x_up e = let a : pos 0 ≤ℤ s.low = grind (arith, ints, e) in let b = h.above in omega (arith, ints, a, b)

    y_up : int_le (pos 0) t.low ≡ true → pos 0 ≤ℤ y
    y_up e = let a : pos 0 ≤ℤ t.low = grind (arith, ints, e) in let b = k.above in omega (arith, ints, a, b)

    go : (b c : Bool) → int_le (pos 0) s.low ≡ b → int_le (pos 0) t.low ≡ c
        → MatchBool b (MatchBool c (r ≡ span (pos 0) (int_min s.high t.high)) (r ≡ span (pos 0) s.high))
        (MatchBool c (r ≡ span (pos 0) t.high) (IsOrRow s t r)) → Holds r (int_bit_and w32 x y)
    go true true e f is =
        let p = and_left x y fx (x_up e) in let q = and_right x y fy (y_up f) in
        rw is (let a = p.above in let b = p.below in let c = q.below in let d = h.below in let g = k.below
        in record { above = a; below = omega (arith, ints, clamps, b, c, d, g) })
    go true false e f is = let p = and_left x y fx (x_up e) in rw is (let a = p.above in let b = p.below
        in let d = h.below in record { above = a; below = omega (arith, ints, b, d) })
    go false true e f is = let q = and_right x y fy (y_up f) in rw is (let a = q.above in let b = q.below
        in let d = k.below in record { above = a; below = omega (arith, ints, b, d) })
    go false false e f is = or_row_holds (λ x y. int_bit_and w32 x y) s t r x y ws wt is h k (and_keeps x y fx fy)

-- ---- the least number of bits

pub record IsLeastBits (m k : ℕ) : Type 0 where
  pub room : m < 2 ^ k
  pub least : (j : ℕ) → m < 2 ^ j → k ≤ j

bits_from_is : (n k m : ℕ) → m < 2 ^ (n + k) → ((j : ℕ) → m < 2 ^ j → k ≤ j) → IsLeastBits m (bits_from n k m)
bits_from_is zero k m h least = record {
  room = subst (λ (n : ℕ). m < 2 ^ n) (let e : 0 + k ≡ k = omega arith in e) h;
  least = least;
}
bits_from_is (suc n) k m h least = go (nat_lt m (2 ^ k)) refl (λ full. bits_from_is n (k + 1) m
    (subst (λ (i : ℕ). m < 2 ^ i) (let e : suc n + k ≡ n + (k + 1) = omega arith in e) h) (more full))
  where
    more : 2 ^ k ≤ m → (j : ℕ) → m < 2 ^ j → k + 1 ≤ j
    more full j room = elim (cases_lt k j) [
      | inl lt ↦ omega (arith, lt)
      | inr ge ↦ let a = pow_mono {i = j} {j = k} ge in absurd (omega (arith, a, full, room))
    ]

    go : (b : Bool) → nat_lt m (2 ^ k) ≡ b → (2 ^ k ≤ m → IsLeastBits m (bits_from n (k + 1) m))
        → IsLeastBits m (cond b k (bits_from n (k + 1) m))
    go true e next = record { room = grind (arith, nat_tests, e); least = least }
    go false e next = next (grind (arith, nat_tests, e))

pub least_bits_is : (m : ℕ) → m < 2147483648 → IsLeastBits m (least_bits m)
unfolding least_bits
least_bits_is m h = bits_from_is 31 0 m h (λ j room. omega arith)

pub least_bits_up : (m n : ℕ) → m ≤ n → n < 2147483648 → least_bits m ≤ least_bits n
least_bits_up m n h k =
    let a = (least_bits_is n k).room in
    (least_bits_is m (omega (arith, h, k))).least (least_bits n) (omega (arith, a, h))

pub least_bits_small : (m : ℕ) → m < 2147483648 → least_bits m ≤ 31
least_bits_small m h = (least_bits_is m h).least 31 h

pub or_row_fits : (s t : Span) → IsWord s → IsWord t → IsOrRow s t (or_row s t)
or_row_fits s t ws wt =
    let is = least_bits_is (greatest_mag s t) (greatest_small s t ws wt) in
    record {
      bits = least_bits (greatest_mag s t);
      ends = ends_from s t _ is.room;
      least = λ k h. is.least k (ends_give s t k h);
      is = refl;
    }

pub or_row_only : (s t r : Span) → IsWord s → IsWord t → IsOrRow s t r → r ≡ or_row s t
or_row_only s t r ws wt m =
    let is = least_bits_is (greatest_mag s t) (greatest_small s t ws wt) in
    let a = m.least (least_bits (greatest_mag s t)) (ends_from s t _ is.room) in
    let b = is.least m.bits (ends_give s t m.bits m.ends) in
    let same : m.bits ≡ least_bits (greatest_mag s t) = omega (arith, a, b) in
    m.is ∙ ap (of_bits s t) same

pub and_row_fits : (s t : Span) → IsWord s → IsWord t → IsAndRow s t (and_row s t)
and_row_fits s t ws wt = go (int_le (pos 0) s.low) (int_le (pos 0) t.low)
  where
    go : (b c : Bool)
        → MatchBool b (MatchBool c (cond b (cond c (span (pos 0) (int_min s.high t.high)) (span (pos 0) s.high))
        (cond c (span (pos 0) t.high) (or_row s t)) ≡ span (pos 0) (int_min s.high t.high))
        (cond b (cond c (span (pos 0) (int_min s.high t.high)) (span (pos 0) s.high)) (cond c (span (pos 0) t.high)
        (or_row s t)) ≡ span (pos 0) s.high)) (MatchBool c (cond b (cond c (span (pos 0) (int_min s.high t.high))
        (span (pos 0) s.high)) (cond c (span (pos 0) t.high) (or_row s t)) ≡ span (pos 0) t.high)
        (IsOrRow s t (cond b (cond c (span (pos 0) (int_min s.high t.high)) (span (pos 0) s.high))
        (cond c (span (pos 0) t.high) (or_row s t)))))
    go true true = refl
    go true false = refl
    go false true = refl
    go false false = or_row_fits s t ws wt

pub and_row_only : (s t r : Span) → IsWord s → IsWord t → IsAndRow s t r → r ≡ and_row s t
and_row_only s t r ws wt row = go (int_le (pos 0) s.low) (int_le (pos 0) t.low) row
  where
    go : (b c : Bool) → MatchBool b (MatchBool c (r ≡ span (pos 0) (int_min s.high t.high)) (r ≡ span (pos 0) s.high))
        (MatchBool c (r ≡ span (pos 0) t.high) (IsOrRow s t r))
        → r ≡ cond b (cond c (span (pos 0) (int_min s.high t.high)) (span (pos 0) s.high)) (cond c (span (pos 0) t.high)
        (or_row s t))
    go true true is = is
    go true false is = is
    go false true is = is
    go false false is = or_row_only s t r ws wt is

-- ---- what the code computes

power_least : (bits k m p : ℕ) → p ≡ 2 ^ bits → p / 2 < max 1 (m + 1) → m < 2 ^ k → bits ≤ k
power_least zero k m p e h i = omega arith
power_least (suc j) k m p e h i = elim (cases_lt k (suc j)) [
  | inl lt ↦ let a = pow_mono {i = k} {j = j} (omega (arith, lt)) in let b : 2 ^ suc j ≡ 2 * 2 ^ j = pow_two_suc j
      in absurd (omega (arith, a, b, e, h, i))
  | inr ge ↦ ge
]
  where
    pow_two_suc : (j : ℕ) → 2 ^ suc j ≡ 2 * 2 ^ j
    pow_two_suc j = omega arith

-- the least power of two above the greatest end gives the row
pub or_row_is : (s t r : Span) (m p : ℕ) → m ≡ greatest_mag s t → IsPowerOfTwo p → m + 1 ≤ p → p / 2 < max 1 (m + 1)
    → r ≡ below_power s t p → IsOrRow s t r
or_row_is s t r m p is power low high e =
    let q = power.1 in
    record {
      bits = power.0;
      ends = ends_from s t power.0 (omega (arith, is, low, q));
      least = λ k h. let a = ends_give s t k h in power_least power.0 k m p q high (omega (arith, a, is));
      is = subst (λ (n : ℕ). r ≡ below_power s t n) q e;
    }

pub below_power_down : (s t r : Span) (l h : ℤ) (p : ℕ) → r ≡ span l h → (s.low <ℤ pos 0) ⊎ (t.low <ℤ pos 0)
    → l ≡ neg_ℤ (pos p) → h ≡ pos p -ℤ pos 1 → r ≡ below_power s t p
below_power_down s t r l h p is down e f = is ∙ spans_same l _ h _ (e ∙ go (int_le (pos 0) s.low) (int_le (pos 0) t.low)
    refl refl down) f
  where
    go : (b c : Bool) → int_le (pos 0) s.low ≡ b → int_le (pos 0) t.low ≡ c → (s.low <ℤ pos 0) ⊎ (t.low <ℤ pos 0)
        → neg_ℤ (pos p) ≡ cond (b && c) (pos 0) (neg_ℤ (pos p))
    go true true i j (inl a) = absurd (grind (arith, ints, i, a))
    go true true i j (inr a) = absurd (grind (arith, ints, j, a))
    go true false i j d = refl
    go false c i j d = refl

pub power_small : (m p : ℕ) → IsPowerOfTwo p → p / 2 < max 1 (m + 1) → m < 2147483648 → p ≤ 2147483648
power_small m p power high h = let q = power.1 in let a = pow_mono {i = power.0} {j = 31} (power_least power.0 31 m p q
    high h) in omega (arith, q, a)
