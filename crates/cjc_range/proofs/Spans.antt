-- What the rows of arithmetic and shifts hold, over any spans.
use Rattle.std.proofs.Common.{◌-ℤ◌, int_lt, ◌==◌, ◌-◌, if◌then◌else◌, to_z, of_z, ◌≡◌, zero, suc, ◌≤◌, ◌<ℤ◌, neg_ℤ}
use Rattle.std.proofs.Common.{int_div, int_rem, unsigned_abs, ◌≢◌, ◌%◌, max, ◌/◌, ℕ, ◌*◌, ◌<◌, ◌^◌, ℤ, pos, negsuc}
use Rattle.std.proofs.Common.{◌+ℤ◌, ◌*ℤ◌, ◌≤ℤ◌, ◌⊎◌, Bool, true, false, cond, ◌&&◌, int_le, FitsSigned, refl, sym, ◌∙◌}
use Rattle.std.proofs.Common.{ap, subst, inl, inr, arith}
use Rattle.std.specs.Int.{w8, w16, w32, w64, int_min, int_max, int_wrap, int_shr}
use Rattle.std.proofs.Math.Pow.{shr_mono, pow_mono}
use Rattle.std.proofs.lemmas.Int.{ints, clamps, rem_below, wrapping_mul_is, fits_signed_mul, int_wrap_fits}
use Rattle.std.proofs.lemmas.Int.{SFits-int_wrap, to_z-of_z, to_z_pos}
use Rattle.std.proofs.Math.IntN.{*ℤ_comm, *ℤ-zero, *ℤ-negsuc, suc_ℤ-*ℤ}
use Rattle.std.proofs.Math.Nat.{le_trans, mul-le-mul_left, div-mul-le_self, div-le_self, mod-le}
use Rattle.std.proofs.lemmas.Nat.{le-div}
use Rattle.std.proofs.lemmas.Bool.Decides.{nat_tests}
use Rattle.cjc_range.specs.Span.{Span, span, Holds, Within, IsWord, full, byte_range, short_range}
use Rattle.cjc_range.specs.Words.{shift_distance, unsigned_shift}
use Rattle.cjc_range.specs.Rows.{clip, IsClipped, IsHull, over_ends, int_min_of, int_max_of, greatest_size, add_row}
use Rattle.cjc_range.specs.Rows.{sub_row, mul_row, neg_row, div_row, rem_bound, rem_within, rem_row, to_byte_row}
use Rattle.cjc_range.specs.Rows.{to_short_row, shl_row, shr_row, ushr_by, ushr_row}
use Rattle.cjc_range.proofs.Rounding.{spans_same}
use Rattle.cjc_range.proofs.WordsLaws.Words.{int_shr_fits}

pub clip_cases : (range s : Span) → ((clip range s ≡ s) × Within s range) ⊎ (clip range s ≡ range)
clip_cases range s = go (int_le range.low s.low) (int_le s.high range.high) refl refl
  where
    go : (b c : Bool) → int_le range.low s.low ≡ b → int_le s.high range.high ≡ c → ((cond (b && c) s range ≡ s)
        × Within s range) ⊎ (cond (b && c) s range ≡ range)
    go true true e f = inl (refl, record { low = grind (arith, ints, e); high = grind (arith, ints, f) })
    go true false e f = inr refl
    go false c e f = inr refl

pub size_neg : (n : ℕ) → unsigned_abs (neg_ℤ (pos n)) ≡ n
size_neg zero = refl
size_neg (suc n) = refl

pub size_below : (z : ℤ) (n m : ℕ) → pos n ≤ℤ z → unsigned_abs z ≤ m → n ≤ m
size_below (pos z) n m h k = omega (arith, ints, h, k)
size_below (negsuc z) n m h k = absurd (omega (arith, ints, h))

pub size_above : (z : ℤ) (n m : ℕ) → z ≤ℤ negsuc n → unsigned_abs z ≤ m → suc n ≤ m
size_above (pos z) n m h k = absurd (omega (arith, ints, h))
size_above (negsuc z) n m h k = omega (arith, ints, h, k)

pub fits_word : (z : ℤ) → Holds full z → FitsSigned w32 z
fits_word (pos n) h = let a = h.below in record { sfits = omega (arith, ints, a) }
fits_word (negsuc n) h = let a = h.above in record { sfits = omega (arith, ints, a) }

pub wraps_word : (z : ℤ) → Holds full (int_wrap w32 z)
wraps_word z = let f = SFits-int_wrap w32 z in record { above = omega (arith, ints, f); below = omega (arith, ints, f) }

-- the row of an exact value, cut to 32 bits, holds what wrapping leaves of the value
pub clip_holds : (s : Span) (z : ℤ) → Holds s z → Holds (clip full s) (int_wrap w32 z)
clip_holds s z h = elim (clip_cases full s) [
  | inl is ↦ rw is.0 (rw (int_wrap_fits w32 z (fits_word z (record {
    above = let a = h.above in let b = is.1.low
        in omega (arith, ints, a, b);
    below = let a = h.below in let b = is.1.high in omega (arith, ints, a, b);
  }))) h)
  | inr is ↦ rw is (wraps_word z)
]

pub add_ends : (s t : Span) → s.low ≤ℤ s.high → t.low ≤ℤ t.high → over_ends (λ x y. x +ℤ y) s t
    ≡ span (s.low +ℤ t.low) (s.high +ℤ t.high)
add_ends s t h k = spans_same _ _ _ _ (omega (arith, ints, clamps)) (omega (arith, ints, clamps))

pub add_holds : (s t : Span) (x y : ℤ) → Holds s x → Holds t y → Holds (add_row s t) (int_wrap w32 (x +ℤ y))
add_holds s t x y h k = clip_holds (over_ends (λ x y. x +ℤ y) s t) (x +ℤ y) (let a = h.above in let b = h.below
    in let c = k.above in let d = k.below in record {
      above = omega (arith, ints, clamps);
      below = omega (arith, ints, clamps);
    })

pub sub_ends : (s t : Span) → s.low ≤ℤ s.high → t.low ≤ℤ t.high → over_ends (λ x y. x -ℤ y) s t ≡ span (s.low -ℤ t.high)
    (s.high -ℤ t.low)
sub_ends s t h k = spans_same _ _ _ _ (omega (arith, ints, clamps)) (omega (arith, ints, clamps))

pub sub_holds : (s t : Span) (x y : ℤ) → Holds s x → Holds t y → Holds (sub_row s t) (int_wrap w32 (x -ℤ y))
sub_holds s t x y h k = clip_holds (over_ends (λ x y. x -ℤ y) s t) (x -ℤ y) (let a = h.above in let b = h.below
    in let c = k.above in let d = k.below in record {
      above = omega (arith, ints, clamps);
      below = omega (arith, ints, clamps);
    })

pub neg_ends : (s : Span) → s.low ≤ℤ s.high → span (int_min (neg_ℤ s.low) (neg_ℤ s.high)) (int_max (neg_ℤ s.low)
    (neg_ℤ s.high)) ≡ span (neg_ℤ s.high) (neg_ℤ s.low)
neg_ends s h = spans_same _ _ _ _ (omega (arith, ints, clamps)) (omega (arith, ints, clamps))

pub neg_holds : (s : Span) (x : ℤ) → Holds s x → Holds (neg_row s) (int_wrap w32 (neg_ℤ x))
neg_holds s x h = clip_holds (span (int_min (neg_ℤ s.low) (neg_ℤ s.high)) (int_max (neg_ℤ s.low) (neg_ℤ s.high)))
    (neg_ℤ x) (let a = h.above in let b = h.below in record {
      above = omega (arith, ints, clamps);
      below = omega (arith, ints, clamps);
    })

-- the cut span of ends that are equal to those over the ends
pub over_from : (f : ℤ → ℤ → ℤ) (s t r : Span) (l h : ℤ) → IsClipped l h r → l ≡ (over_ends f s t).low
    → h ≡ (over_ends f s t).high → r ≡ clip full (over_ends f s t)
over_from f s t r l h is e g = is.is ∙ ap (clip full) (spans_same l _ h _ e g)

-- the cut span of four values that are equal to those over the ends
pub hull_from : (f : ℤ → ℤ → ℤ) (s t r : Span) (a b c d : ℤ) → IsHull a b c d r → a ≡ f s.low t.low → b ≡ f s.low t.high
    → c ≡ f s.high t.low → d ≡ f s.high t.high → r ≡ clip full (over_ends f s t)
hull_from f s t r a b c d is e g h k =
    let lows : int_min_of a b c d ≡ (over_ends f s t).low = rw (e, g, h, k) refl in
    let highs : int_max_of a b c d ≡ (over_ends f s t).high = rw (e, g, h, k) refl in
    is.is ∙ ap (clip full) (spans_same _ _ _ _ lows highs)

pub neg_from : (s r : Span) (l h : ℤ) → IsClipped l h r → s.low ≤ℤ s.high → l ≡ neg_ℤ s.high → h ≡ neg_ℤ s.low
    → r ≡ neg_row s
neg_from s r l h is o e f = is.is ∙ ap (clip full) (spans_same l _ h _ e f ∙ sym (neg_ends s o))

pub hull_is : (r : Span) (a b c d l h : ℤ) → IsClipped l h r → l ≡ int_min_of a b c d → h ≡ int_max_of a b c d
    → IsHull a b c d r
hull_is r a b c d l h is e f = record { is = is.is ∙ ap (clip full) (spans_same l _ h _ e f) }

-- ---- products

mul_step : (a : ℤ) (n : ℕ) → a *ℤ pos (suc n) ≡ a *ℤ pos n +ℤ a
mul_step a n = *ℤ_comm a (pos (suc n)) ∙ suc_ℤ-*ℤ (pos n) a ∙ ap (λ (z : ℤ). z +ℤ a) (*ℤ_comm (pos n) a)

pub mul_up : (a x : ℤ) (n : ℕ) → a ≤ℤ x → (a *ℤ pos n) ≤ℤ (x *ℤ pos n)
mul_up a x zero h = let e = *ℤ-zero a in let f = *ℤ-zero x in omega (arith, ints, e, f)
mul_up a x (suc n) h = let ih = mul_up a x n h in let e = mul_step a n in let f = mul_step x n
    in omega (arith, ints, e, f, ih, h)

mul_down : (a x : ℤ) (n : ℕ) → a ≤ℤ x → (x *ℤ negsuc n) ≤ℤ (a *ℤ negsuc n)
mul_down a x n h = let e = *ℤ-negsuc a n in let f = *ℤ-negsuc x n in let g = mul_up a x (suc n) h
    in omega (arith, ints, e, f, g)

pub record Between (a b z : ℤ) : Type 0 where
  pub above : int_min a b ≤ℤ z
  pub below : z ≤ℤ int_max a b

mul_between : (a b x y : ℤ) → a ≤ℤ x → x ≤ℤ b → Between (a *ℤ y) (b *ℤ y) (x *ℤ y)
mul_between a b x (pos n) h k = let e = mul_up a x n h in let f = mul_up x b n k
    in record { above = omega (arith, ints, clamps, e, f); below = omega (arith, ints, clamps, e, f) }
mul_between a b x (negsuc n) h k = let e = mul_down a x n h in let f = mul_down x b n k
    in record { above = omega (arith, ints, clamps, e, f); below = omega (arith, ints, clamps, e, f) }

mul_between_right : (a c d y : ℤ) → c ≤ℤ y → y ≤ℤ d → Between (a *ℤ c) (a *ℤ d) (a *ℤ y)
mul_between_right a c d y h k = let m = mul_between c d y a h k in rw (*ℤ_comm a c, *ℤ_comm a d, *ℤ_comm a y) m

-- what lies between two values that lie between two each lies between the four
corners : (p q r s u v z : ℤ) → Between p q u → Between r s v → Between u v z
    → Holds (span (int_min_of p q r s) (int_max_of p q r s)) z
corners p q r s u v z h k m =
    let a = h.above in let b = h.below in let c = k.above in let d = k.below in let e = m.above in let f = m.below in
    record {
      above = omega (arith, ints, clamps, a, b, c, d, e, f);
      below = omega (
        arith,
        ints,
        clamps,
        a,
        b,
        c,
        d,
        e,
        f,
      );
    }

pub mul_ends : (s t : Span) (x y : ℤ) → Holds s x → Holds t y → Holds (over_ends (λ x y. x *ℤ y) s t) (x *ℤ y)
mul_ends s t x y h k =
    corners (s.low *ℤ t.low) (s.low *ℤ t.high) (s.high *ℤ t.low) (s.high *ℤ t.high) (s.low *ℤ y) (s.high *ℤ y) (x *ℤ y)
    (mul_between_right s.low t.low t.high y k.above k.below) (mul_between_right s.high t.low t.high y k.above k.below)
    (mul_between s.low s.high x y h.above h.below)

pub mul_holds : (s t : Span) (x y : ℤ) → Holds s x → Holds t y → Holds (mul_row s t) (int_wrap w32 (x *ℤ y))
mul_holds s t x y h k = clip_holds (over_ends (λ x y. x *ℤ y) s t) (x *ℤ y) (mul_ends s t x y h k)

-- ---- quotients

-- a greater divisor gives a lesser quotient
div_by_more : (a c d : ℕ) → 0 < c → c ≤ d → a / d ≤ a / c
div_by_more a c d h k = le-div (a / d) a c h (le_trans (mul-le-mul_left (a / d) k) (div-mul-le_self a d))

-- a lesser number gives a lesser quotient
div_of_less : (a b c : ℕ) → 0 < c → a ≤ b → a / c ≤ b / c
div_of_less a b c h k = le-div (a / c) b c h (le_trans (div-mul-le_self a c) k)

pub div_up : (a x y : ℤ) → pos 0 <ℤ y → a ≤ℤ x → int_div a y ≤ℤ int_div x y
div_up (pos a) (pos x) (pos y) p h = let e = div_of_less a x y (omega (arith, ints, p)) (omega (arith, ints, h))
    in omega (arith, ints, e)
div_up (pos a) (negsuc x) (pos y) p h = absurd (omega (arith, ints, h))
div_up (negsuc a) (pos x) (pos y) p h = omega (arith, ints)
div_up (negsuc a) (negsuc x) (pos y) p h = let e = div_of_less (suc x) (suc a) y (omega (arith, ints, p)) (omega (
  arith,
  ints,
  h,
)) in omega (arith, ints, e)
div_up a x (negsuc y) p h = absurd (omega (arith, ints, p))

div_between_right : (a c d y : ℤ) → pos 1 ≤ℤ c → c ≤ℤ y → y ≤ℤ d → Between (int_div a c) (int_div a d) (int_div a y)
div_between_right (pos a) (pos c) (pos d) (pos y) p h k = let e = div_by_more a c y (omega (arith, ints, p))
    (omega (arith, ints, h)) in let f = div_by_more a y d (omega (arith, ints, p, h)) (omega (arith, ints, k))
    in record { above = omega (arith, ints, clamps, e, f); below = omega (arith, ints, clamps, e, f) }
div_between_right (negsuc a) (pos c) (pos d) (pos y) p h k = let e = div_by_more (suc a) c y (omega (arith, ints, p))
    (omega (arith, ints, h)) in let f = div_by_more (suc a) y d (omega (arith, ints, p, h)) (omega (arith, ints, k))
    in record { above = omega (arith, ints, clamps, e, f); below = omega (arith, ints, clamps, e, f) }
div_between_right a (negsuc c) d y p h k = absurd (omega (arith, ints, p))
div_between_right a (pos c) (negsuc d) y p h k = absurd (omega (arith, ints, p, h, k))
div_between_right a (pos c) (pos d) (negsuc y) p h k = absurd (omega (arith, ints, p, h))

between_up : (a b z : ℤ) → a ≤ℤ z → z ≤ℤ b → Between a b z
between_up a b z h k = record { above = omega (arith, ints, clamps); below = omega (arith, ints, clamps) }

pub div_ends : (s t : Span) (x y : ℤ) → pos 1 ≤ℤ t.low → Holds s x → Holds t y
    → Holds (over_ends (λ x y. int_div x y) s t) (int_div x y)
div_ends s t x y p h k =
    let q : pos 0 <ℤ y = let a = k.above in omega (arith, ints, p, a) in
    corners (int_div s.low t.low) (int_div s.low t.high) (int_div s.high t.low) (int_div s.high t.high)
    (int_div s.low y) (int_div s.high y) (int_div x y)
    (div_between_right s.low t.low t.high y p k.above k.below) (div_between_right s.high t.low t.high y p k.above
    k.below)
    (between_up _ _ _ (div_up s.low x y q h.above) (div_up x s.high y q h.below))

-- a quotient is no larger than the number
pub div_size : (x y : ℤ) → unsigned_abs (int_div x y) ≤ unsigned_abs x
div_size (pos x) (pos y) = div-le_self x y
div_size (pos x) (negsuc y) = let e = div-le_self x (suc y) in let f = size_neg (x / suc y) in omega (arith, e, f)
div_size (negsuc x) (pos y) = let e = div-le_self (suc x) y in let f = size_neg (suc x / y) in omega (arith, e, f)
div_size (negsuc x) (negsuc y) = div-le_self (suc x) (suc y)

pub size_between : (n : ℕ) (z : ℤ) → unsigned_abs z ≤ n → Holds (span (neg_ℤ (pos n)) (pos n)) z
size_between n (pos z) h = record { above = omega (arith, ints, h); below = omega (arith, ints, h) }
size_between n (negsuc z) h = record { above = omega (arith, ints, h); below = omega (arith, ints, h) }

pub size_of_held : (s : Span) (x : ℤ) → Holds s x → unsigned_abs x ≤ greatest_size s
size_of_held s (pos x) h = let b = h.below in size_below s.high x (max (unsigned_abs s.low) (unsigned_abs s.high)) b
    (omega arith)
size_of_held s (negsuc x) h = let a = h.above in size_above s.low x (max (unsigned_abs s.low) (unsigned_abs s.high)) a
    (omega arith)

pub div_holds : (s t : Span) (x y : ℤ) → Holds s x → Holds t y → Holds (div_row s t) (int_wrap w32 (int_div x y))
div_holds s t x y h k = clip_holds _ (int_div x y) (go (int_le (pos 1) t.low) refl)
  where
    go : (b : Bool) → int_le (pos 1) t.low ≡ b
        → Holds (cond b (over_ends (λ x y. int_div x y) s t) (span (neg_ℤ (pos (greatest_size s)))
        (pos (greatest_size s)))) (int_div x y)
    go true e = div_ends s t x y (grind (arith, ints, e)) h k
    go false e = size_between (greatest_size s) (int_div x y) (le_trans (div_size x y) (size_of_held s x h))

-- the row of a division by numbers that are all at least 1
pub div_row_small : (s t : Span) → pos 1 ≤ℤ t.low → clip full (over_ends (λ x y. int_div x y) s t) ≡ div_row s t
div_row_small s t h = go (int_le (pos 1) t.low) refl
  where
    go : (b : Bool) → int_le (pos 1) t.low ≡ b → clip full (over_ends (λ x y. int_div x y) s t)
        ≡ clip full (cond b (over_ends (λ x y. int_div x y) s t) (span (neg_ℤ (pos (greatest_size s)))
        (pos (greatest_size s))))
    go true e = refl
    go false e = absurd (grind (arith, ints, e, h))

pub div_row_other : (s t r : Span) (l h : ℤ) → IsClipped l h r → t.low <ℤ pos 1 → l ≡ neg_ℤ (pos (greatest_size s))
    → h ≡ pos (greatest_size s) → r ≡ div_row s t
div_row_other s t r l h is p e f = is.is ∙ ap (clip full) (spans_same l _ h _ e f) ∙ go (int_le (pos 1) t.low) refl
  where
    go : (b : Bool) → int_le (pos 1) t.low ≡ b
        → clip full (span (neg_ℤ (pos (greatest_size s))) (pos (greatest_size s)))
        ≡ clip full (cond b (over_ends (λ x y. int_div x y) s t) (span (neg_ℤ (pos (greatest_size s)))
        (pos (greatest_size s))))
    go true e = absurd (grind (arith, ints, e, p))
    go false e = refl

pub product_passed : (a b c d r q : ℤ) → r ≡ a *ℤ b → a ≡ c → b ≡ d → q ≡ r → q ≡ c *ℤ d
product_passed a b c d r q e f g h = (cc)

-- ---- remainders

-- a remainder is no larger than the number
rem_size : (x y : ℤ) → unsigned_abs (int_rem x y) ≤ unsigned_abs x
rem_size (pos x) y = mod-le x (unsigned_abs y)
rem_size (negsuc x) y = let e = mod-le (suc x) (unsigned_abs y) in let f = size_neg (suc x % unsigned_abs y)
    in omega (arith, e, f)

-- it has the sign of the number
rem_up : (x y : ℤ) → pos 0 ≤ℤ x → pos 0 ≤ℤ int_rem x y
rem_up (pos x) y h = omega (arith, ints)
rem_up (negsuc x) y h = absurd (omega (arith, ints, h))

rem_down : (x y : ℤ) → x ≤ℤ pos 0 → int_rem x y ≤ℤ pos 0
rem_down (pos x) y h = let e = mod-le x (unsigned_abs y) in omega (arith, ints, e, h)
rem_down (negsuc x) y h = omega (arith, ints)

size_some : (y : ℤ) → y ≢ pos 0 → 0 < unsigned_abs y
size_some (pos zero) n = absurd (n refl)
size_some (pos (suc y)) n = omega arith
size_some (negsuc y) n = omega arith

rem_bounded : (s t : Span) (x y : ℤ) → Holds s x → Holds t y → y ≢ pos 0 → unsigned_abs (int_rem x y) ≤ rem_bound s t
rem_bounded s t x y h k n =
    let a = rem_size x y in let b = size_of_held s x h in let c = size_of_held t y k in let d =
    rem_below x y (size_some y n) in
    omega (arith, a, b, c, d)

within_held : (s : Span) (z : ℤ) (n : ℕ) → unsigned_abs z ≤ n → (pos 0 ≤ℤ s.low → pos 0 ≤ℤ z)
    → (s.high ≤ℤ pos 0 → z ≤ℤ pos 0) → Holds (rem_within s n) z
within_held s z n h up down = go (int_le (pos 0) s.low) (int_le s.high (pos 0)) refl refl
  where
    go : (b c : Bool) → int_le (pos 0) s.low ≡ b → int_le s.high (pos 0) ≡ c
        → Holds (span (cond b (pos 0) (neg_ℤ (pos n))) (cond c (pos 0) (pos n))) z
    go true true e f = record { above = up (grind (arith, ints, e)); below = down (grind (arith, ints, f)) }
    go true false e f = record { above = up (grind (arith, ints, e)); below = (size_between n z h).below }
    go false true e f = record { above = (size_between n z h).above; below = down (grind (arith, ints, f)) }
    go false false e f = size_between n z h

pub rem_holds : (s t : Span) (x y : ℤ) → Holds s x → Holds t y → y ≢ pos 0 → Holds (rem_row s t) (int_rem x y)
rem_holds s t x y h k n =
    within_held s (int_rem x y) (rem_bound s t) (rem_bounded s t x y h k n)
    (λ l. rem_up x y (let a = h.above in omega (arith, ints, a, l)))
    (λ l. rem_down x y (let b = h.below in omega (arith, ints, b, l)))

-- the row of a bound, by the signs of the ends
pub rem_within_is : (s r : Span) (l h : ℤ) (n : ℕ) → r ≡ span l h → ((pos 0 ≤ℤ s.low) × (l ≡ pos 0))
    ⊎ ((s.low <ℤ pos 0) × (l ≡ neg_ℤ (pos n))) → ((s.high ≤ℤ pos 0) × (h ≡ pos 0)) ⊎ ((pos 0 <ℤ s.high) × (h ≡ pos n))
    → r ≡ rem_within s n
rem_within_is s r l h n is lower upper = is ∙ spans_same l _ h _ (lows (int_le (pos 0) s.low) refl lower)
    (highs (int_le s.high (pos 0)) refl upper)
  where
    lows : (b : Bool) → int_le (pos 0) s.low ≡ b → ((pos 0 ≤ℤ s.low) × (l ≡ pos 0))
        ⊎ ((s.low <ℤ pos 0) × (l ≡ neg_ℤ (pos n))) → l ≡ cond b (pos 0) (neg_ℤ (pos n))
    lows true e (inl i) = i.1
    lows true e (inr i) = let a = i.0 in absurd (grind (arith, ints, e, a))
    lows false e (inl i) = let a = i.0 in absurd (grind (arith, ints, e, a))
    lows false e (inr i) = i.1

    highs : (b : Bool) → int_le s.high (pos 0) ≡ b → ((s.high ≤ℤ pos 0) × (h ≡ pos 0))
        ⊎ ((pos 0 <ℤ s.high) × (h ≡ pos n)) → h ≡ cond b (pos 0) (pos n)
    highs true e (inl i) = i.1
    highs true e (inr i) = let a = i.0 in absurd (grind (arith, ints, e, a))
    highs false e (inl i) = let a = i.0 in absurd (grind (arith, ints, e, a))
    highs false e (inr i) = i.1

-- ---- the types byte and short

fits_byte : (z : ℤ) → Holds byte_range z → FitsSigned w8 z
fits_byte (pos n) h = let a = h.below in record { sfits = omega (arith, ints, a) }
fits_byte (negsuc n) h = let a = h.above in record { sfits = omega (arith, ints, a) }

wraps_byte : (z : ℤ) → Holds byte_range (int_wrap w8 z)
wraps_byte z = let f = SFits-int_wrap w8 z in record { above = omega (arith, ints, f); below = omega (arith, ints, f) }

pub to_byte_holds : (s : Span) (z : ℤ) → Holds s z → Holds (to_byte_row s) (int_wrap w8 z)
to_byte_holds s z h = elim (clip_cases byte_range s) [
  | inl is ↦ rw is.0 (rw (int_wrap_fits w8 z (fits_byte z (record {
    above = let a = h.above in let b = is.1.low
        in omega (arith, ints, a, b);
    below = let a = h.below in let b = is.1.high in omega (arith, ints, a, b);
  }))) h)
  | inr is ↦ rw is (wraps_byte z)
]

fits_short : (z : ℤ) → Holds short_range z → FitsSigned w16 z
fits_short (pos n) h = let a = h.below in record { sfits = omega (arith, ints, a) }
fits_short (negsuc n) h = let a = h.above in record { sfits = omega (arith, ints, a) }

wraps_short : (z : ℤ) → Holds short_range (int_wrap w16 z)
wraps_short z = let f = SFits-int_wrap w16 z in record {
  above = omega (arith, ints, f);
  below = omega (arith, ints, f);
}

pub to_short_holds : (s : Span) (z : ℤ) → Holds s z → Holds (to_short_row s) (int_wrap w16 z)
to_short_holds s z h = elim (clip_cases short_range s) [
  | inl is ↦ rw is.0 (rw (int_wrap_fits w16 z (fits_short z (record {
    above = let a = h.above in let b = is.1.low
        in omega (arith, ints, a, b);
    below = let a = h.below in let b = is.1.high in omega (arith, ints, a, b);
  }))) h)
  | inr is ↦ rw is (wraps_short z)
]

-- ---- shifts

pub shr_up : (a x : ℤ) (k : ℕ) → a ≤ℤ x → int_shr a k ≤ℤ int_shr x k
shr_up (pos a) (pos x) k h = let e = shr_mono {a = a} {b = x} k (omega (arith, ints, h)) in omega (arith, ints, e)
shr_up (pos a) (negsuc x) k h = absurd (omega (arith, ints, h))
shr_up (negsuc a) (pos x) k h = omega (arith, ints)
shr_up (negsuc a) (negsuc x) k h = let e = shr_mono {a = x} {b = a} k (omega (arith, ints, h)) in omega (arith, ints, e)

-- a shift moves a number toward 0 or -1
pub shr_spread : (a b x : ℤ) (k : ℕ) → a ≤ℤ x → x ≤ℤ b → Holds (span (int_min a (pos 0)) (int_max b (negsuc 0)))
    (int_shr x k)
shr_spread a b (pos x) k h i = let e = div-le_self x (2 ^ k) in record {
  above = omega (arith, ints, clamps, e);
  below = omega (arith, ints, clamps, e);
}
shr_spread a b (negsuc x) k h i = let e = div-le_self x (2 ^ k) in record {
  above = omega (arith, ints, clamps, e);
  below = omega (arith, ints, clamps, e);
}

pub single : (t : Span) (y : ℤ) → t.high ≤ℤ t.low → Holds t y → y ≡ t.low
single t y e h = let a = h.above in let b = h.below in omega (arith, ints, a, b, e)

pub shr_holds : (s t : Span) (x y : ℤ) → Holds s x → Holds t y → Holds (shr_row s t) (int_shr x (shift_distance y))
shr_holds s t x y h k = go (int_le t.high t.low) refl
  where
    go : (b : Bool) → int_le t.high t.low ≡ b
        → Holds (cond b (span (int_shr s.low (shift_distance t.low)) (int_shr s.high (shift_distance t.low)))
        (span (int_min s.low (pos 0)) (int_max s.high (negsuc 0)))) (int_shr x (shift_distance y))
    go true e =
        let is : y ≡ t.low = single t y (grind (arith, ints, e)) k in
        subst (λ (z : ℤ). Holds (span (int_shr s.low (shift_distance t.low)) (int_shr s.high (shift_distance t.low)))
        (int_shr x (shift_distance z))) (sym is)
        (record {
          above = shr_up s.low x (shift_distance t.low) h.above;
          below = shr_up x s.high (shift_distance t.low)
              h.below;
        })
    go false e = shr_spread s.low s.high x (shift_distance y) h.above h.below

-- the same of what the code computes
pub shr_up_word : (a x : ℤ) (k : ℕ) → FitsSigned w32 a → FitsSigned w32 x → a ≤ℤ x
    → to_z w32 (of_z w32 (int_shr (to_z w32 (of_z w32 a)) k)) ≤ℤ to_z w32 (of_z w32 (int_shr (to_z w32 (of_z w32 x)) k))
shr_up_word a x k f g h = rw (
  to_z-of_z w32 a f,
  to_z-of_z w32 x g,
  to_z-of_z w32 (int_shr a k) (int_shr_fits a k f),
  to_z-of_z w32 (int_shr x k) (int_shr_fits x k g),
) (shr_up a x k h)

-- a shift up multiplies
pub shl_holds : (s t : Span) (x y : ℤ) → Holds s x → Holds t y
    → Holds (shl_row s t) (int_wrap w32 (x *ℤ pos (2 ^ shift_distance y)))
shl_holds s t x y h k = go (int_le t.high t.low) refl
  where
    go : (b : Bool) → int_le t.high t.low ≡ b
        → Holds (cond b (clip full (span (s.low *ℤ pos (2 ^ shift_distance t.low))
        (s.high *ℤ pos (2 ^ shift_distance t.low)))) full) (int_wrap w32 (x *ℤ pos (2 ^ shift_distance y)))
    go true e =
        let is : y ≡ t.low = single t y (grind (arith, ints, e)) k in
        subst (λ (z : ℤ). Holds (clip full (span (s.low *ℤ pos (2 ^ shift_distance t.low))
        (s.high *ℤ pos (2 ^ shift_distance t.low)))) (int_wrap w32 (x *ℤ pos (2 ^ shift_distance z)))) (sym is)
        (clip_holds _ (x *ℤ pos (2 ^ shift_distance t.low)) (record {
          above = mul_up s.low x (2 ^ shift_distance t.low)
              h.above;
          below = mul_up x s.high (2 ^ shift_distance t.low) h.below;
        }))
    go false e = wraps_word (x *ℤ pos (2 ^ shift_distance y))

-- what the code computes: a shift of 32 bits up by fewer than 32 keeps all bits in 64
pub shl_exact : (x : ℤ) (k : ℕ) → FitsSigned w32 x → k < 32 → to_z w64 (of_z w64 x * 2 ^ k % 18446744073709551616)
    ≡ x *ℤ pos (2 ^ k)
shl_exact x k f h =
    let small : 2 ^ k ≤ 2147483648 = pow_mono {i = k} {j = 31} (omega (arith, h)) in
    let size : unsigned_abs x ≤ 2147483648 = size_bounded x f in
    let wide : FitsSigned w64 x = let a = f.sfits in record { sfits = omega (arith, a) } in
    let power : FitsSigned w64 (pos (2 ^ k)) = record { sfits = omega (arith, small) } in
    wrapping_mul_is w64 x (pos (2 ^ k)) wide power ∙ int_wrap_fits w64 (x *ℤ pos (2 ^ k)) (fits_signed_mul w64 x
    (pos (2 ^ k)) 2147483648 2147483648 size small (omega arith))
  where
    size_bounded : (x : ℤ) → FitsSigned w32 x → unsigned_abs x ≤ 2147483648
    size_bounded (pos n) f = let a = f.sfits in omega (arith, a)
    size_bounded (negsuc n) f = let a = f.sfits in omega (arith, a)

-- ---- shifts without sign

pub word_lt : (x : ℤ) → FitsSigned w32 x → of_z w32 x < 4294967296
word_lt (pos n) f = let a = f.sfits in omega (arith, a)
word_lt (negsuc n) f = let a = f.sfits in omega (arith, a)

pub half_lt : (u k : ℕ) → u < 4294967296 → 0 < k → u / 2 ^ k < 2147483648
half_lt u k h i =
    let two : 2 ≤ 2 ^ k = pow_mono {i = 1} {j = k} (omega arith) in
    let e = div_by_more u 2 (2 ^ k) (omega arith) two in
    let f : u / 2 < 2147483648 = omega arith in
    omega (arith, e, f)

-- a shift by 1 or more gives a number that is not negative
ushr_is : (x : ℤ) (k : ℕ) → FitsSigned w32 x → 0 < k → unsigned_shift x k ≡ pos (of_z w32 x / 2 ^ k)
ushr_is x k f h = to_z_pos w32 (of_z w32 x / 2 ^ k) (half_lt (of_z w32 x) k (word_lt x f) h)

ushr_zero : (x : ℤ) → FitsSigned w32 x → unsigned_shift x 0 ≡ x
ushr_zero x f = let e : of_z w32 x / 2 ^ 0 ≡ of_z w32 x = omega arith in ap (λ (n : ℕ). to_z w32 n) e
    ∙ to_z-of_z w32 x f

ushr_pos : (n k : ℕ) → n < 2147483648 → unsigned_shift (pos n) k ≡ pos (n / 2 ^ k)
ushr_pos n k h = let e = div-le_self n (2 ^ k) in to_z_pos w32 (n / 2 ^ k) (omega (arith, e))

-- the value of the bits of a negative number
of_neg : (n : ℕ) → n < 2147483648 → negsuc n +ℤ pos 4294967296 ≡ pos (of_z w32 (negsuc n))
of_neg n h = omega (arith, ints)

ushr_nonneg : (x : ℤ) (k : ℕ) → FitsSigned w32 x → pos 0 ≤ℤ x → unsigned_shift x k ≡ int_shr x k
ushr_nonneg (pos n) k f h = let a = f.sfits in ushr_pos n k (omega (arith, a))
ushr_nonneg (negsuc n) k f h = absurd (omega (arith, ints, h))

ushr_neg : (x : ℤ) (k : ℕ) → FitsSigned w32 x → x <ℤ pos 0 → 0 < k → unsigned_shift x k ≡ int_shr (x +ℤ pos (2 ^ 32)) k
ushr_neg (pos n) k f h i = absurd (omega (arith, ints, h))
ushr_neg (negsuc n) k f h i = let a = f.sfits in ushr_is (negsuc n) k f i
    ∙ sym (ap (λ (z : ℤ). int_shr z k) (of_neg n (omega (arith, a))))

ushr_any : (x : ℤ) (k : ℕ) → FitsSigned w32 x → Holds full (unsigned_shift x k)
ushr_any x zero f = rw (ushr_zero x f) (fit_held x f)
  where
    fit_held : (x : ℤ) → FitsSigned w32 x → Holds full x
    fit_held (pos n) f = let a = f.sfits in record { above = omega (arith, ints, a); below = omega (arith, ints, a) }
    fit_held (negsuc n) f = let a = f.sfits in record { above = omega (arith, ints, a); below = omega (arith, ints, a) }
ushr_any x (suc k) f = rw (ushr_is x (suc k) f (omega arith)) (let e = half_lt (of_z w32 x) (suc k) (word_lt x f)
    (omega arith) in record { above = omega (arith, ints, e); below = omega (arith, ints, e) })

ushr_single : (s : Span) (x : ℤ) (k : ℕ) → FitsSigned w32 x → Holds s x → Holds (ushr_by s k) (unsigned_shift x k)
ushr_single s x k f h = start (k == 0) refl
  where
    go : 0 < k → (b c : Bool) → int_le (pos 0) s.low ≡ b → int_lt s.high (pos 0) ≡ c
        → Holds (cond b (span (int_shr s.low k) (int_shr s.high k)) (cond c (span (int_shr (s.low +ℤ pos (2 ^ 32)) k)
        (int_shr (s.high +ℤ pos (2 ^ 32)) k)) (span (pos 0) (pos ((2 ^ 32 - 1) / 2 ^ k))))) (unsigned_shift x k)
    go some true c e g = let low : pos 0 ≤ℤ s.low = grind (arith, ints, e) in let a = h.above in
        rw (ushr_nonneg x k f (omega (arith, ints, a, low))) (record {
          above = shr_up s.low x k h.above;
          below = shr_up x s.high k h.below;
        })
    go some false true e g = let high : s.high <ℤ pos 0 = grind (arith, ints, g) in let a = h.above in let b = h.below
        in
        rw (ushr_neg x k f (omega (arith, ints, b, high)) some) (record {
          above = shr_up (s.low +ℤ pos (2 ^ 32))
              (x +ℤ pos (2 ^ 32)) k (omega (arith, ints, a));
          below = shr_up (x +ℤ pos (2 ^ 32)) (s.high +ℤ pos (2 ^ 32))
              k (omega (arith, ints, b));
        })
    go some false false e g = let u = word_lt x f in let m = shr_mono {a = of_z w32 x} {b = 2 ^ 32 - 1} k (omega (
      arith,
      u,
    )) in
        rw (ushr_is x k f some) (record { above = omega (arith, ints); below = omega (arith, ints, m) })

    start : (b : Bool) → (k == 0) ≡ b
        → Holds (cond b s (if int_le (pos 0) s.low then span (int_shr s.low k) (int_shr s.high k)
        else if int_lt s.high (pos 0) then span (int_shr (s.low +ℤ pos (2 ^ 32)) k) (int_shr (s.high +ℤ pos (2 ^ 32)) k)
        else span (pos 0) (pos ((2 ^ 32 - 1) / 2 ^ k)))) (unsigned_shift x k)
    start true e = let none : k ≡ 0 = grind (arith, nat_tests, e) in subst (λ (n : ℕ). Holds s (unsigned_shift x n))
        (sym none) (rw (ushr_zero x f) h)
    start false e = go (grind (arith, nat_tests, e)) (int_le (pos 0) s.low) (int_lt s.high (pos 0)) refl refl

pub ushr_other : (s : Span) (x : ℤ) (k : ℕ) → FitsSigned w32 x → Holds s x → Holds (if int_le (pos 0) s.low
    then span (pos 0) s.high else full) (unsigned_shift x k)
ushr_other s x k f h = go (int_le (pos 0) s.low) refl
  where
    down : (z : ℤ) → pos 0 ≤ℤ z → z ≤ℤ s.high → Holds (span (pos 0) s.high) (int_shr z k)
    down (pos n) p q = let e = div-le_self n (2 ^ k) in record {
      above = omega (arith, ints);
      below = omega (arith, ints, e, q);
    }
    down (negsuc n) p q = absurd (omega (arith, ints, p))

    go : (b : Bool) → int_le (pos 0) s.low ≡ b → Holds (cond b (span (pos 0) s.high) full) (unsigned_shift x k)
    go true e = let low : pos 0 ≤ℤ s.low = grind (arith, ints, e) in let a = h.above in let up : pos 0 ≤ℤ x =
        omega (arith, ints, a, low) in
        rw (ushr_nonneg x k f up) (down x up h.below)
    go false e = ushr_any x k f

pub ushr_holds : (s t : Span) (x y : ℤ) → FitsSigned w32 x → Holds s x → Holds t y
    → Holds (ushr_row s t) (unsigned_shift x (shift_distance y))
ushr_holds s t x y f h k = go (int_le t.high t.low) refl
  where
    go : (b : Bool) → int_le t.high t.low ≡ b
        → Holds (cond b (ushr_by s (shift_distance t.low)) (if int_le (pos 0) s.low then span (pos 0) s.high else full))
        (unsigned_shift x (shift_distance y))
    go true e = rw (single t y (grind (arith, ints, e)) k) (ushr_single s x (shift_distance t.low) f h)
    go false e = ushr_other s x (shift_distance y) f h

-- a number that two ends of 32 bits enclose has 32 bits
pub held_fits : (s : Span) (x : ℤ) → FitsSigned w32 s.low → FitsSigned w32 s.high → Holds s x → FitsSigned w32 x
held_fits s (pos n) f g h = let b = h.below in top s.high n g b
  where
    top : (z : ℤ) (n : ℕ) → FitsSigned w32 z → pos n ≤ℤ z → FitsSigned w32 (pos n)
    top (pos m) n f h = let a = f.sfits in record { sfits = omega (arith, ints, a, h) }
    top (negsuc m) n f h = absurd (omega (arith, ints, h))
held_fits s (negsuc n) f g h = let a = h.above in bottom s.low n f a
  where
    bottom : (z : ℤ) (n : ℕ) → FitsSigned w32 z → z ≤ℤ negsuc n → FitsSigned w32 (negsuc n)
    bottom (pos m) n f h = absurd (omega (arith, ints, h))
    bottom (negsuc m) n f h = let a = f.sfits in record { sfits = omega (arith, ints, a, h) }

pub between_is : (r : Span) (l h m n : ℤ) → r ≡ span l h → l ≡ m → h ≡ n → r ≡ span m n
between_is r l h m n e f g = e ∙ spans_same l m h n f g

-- what the bits of a negative number give, shifted
pub shr_of_neg : (z : ℤ) (k : ℕ) → FitsSigned w32 z → z <ℤ pos 0 → int_shr (z +ℤ pos (2 ^ 32)) k
    ≡ pos (of_z w32 z / 2 ^ k)
shr_of_neg (pos n) k f h = absurd (omega (arith, ints, h))
shr_of_neg (negsuc n) k f h = let a = f.sfits in ap (λ (z : ℤ). int_shr z k) (of_neg n (omega (arith, a)))

pub bits_up : (a b : ℤ) (k : ℕ) → FitsSigned w32 a → FitsSigned w32 b → a ≤ℤ b → b <ℤ pos 0
    → of_z w32 a / 2 ^ k ≤ of_z w32 b / 2 ^ k
bits_up a (pos n) k f g h i = absurd (omega (arith, ints, i))
bits_up (pos m) (negsuc n) k f g h i = absurd (omega (arith, ints, h))
bits_up (negsuc m) (negsuc n) k f g h i = shr_mono {a = of_z w32 (negsuc m)} {b = of_z w32 (negsuc n)} k (omega (
  arith,
  ints,
  h,
))

pub bits_half : (z : ℤ) (k : ℕ) → FitsSigned w32 z → 0 < k → of_z w32 z / 2 ^ k < 2147483648
bits_half z k f h = half_lt (of_z w32 z) k (word_lt z f) h

pub ones_half : (k : ℕ) → 0 < k → 4294967295 / 2 ^ k < 2147483648
ones_half k h = half_lt 4294967295 k (omega arith) h

-- an interval is a span of 32 bits
pub word_of : (s : Span) (a b : ℤ) → span a b ≡ s → FitsSigned w32 a → FitsSigned w32 b → a ≤ℤ b → IsWord s
word_of s a b e f g h = subst IsWord e (record { within = record { low = low a f; high = high b g }; ordered = h })
  where
    low : (z : ℤ) → FitsSigned w32 z → negsuc 2147483647 ≤ℤ z
    low (pos n) f = omega (arith, ints)
    low (negsuc n) f = let a = f.sfits in omega (arith, ints, a)

    high : (z : ℤ) → FitsSigned w32 z → z ≤ℤ pos 2147483647
    high (pos n) f = let a = f.sfits in omega (arith, ints, a)
    high (negsuc n) f = omega (arith, ints)
