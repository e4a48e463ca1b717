-- Spans inside spans, and each row on operands inside wider ones.
use Rattle.std.proofs.Common.{◌≡◌, ◌<◌, ◌≤◌, ◌<ℤ◌, unsigned_abs, neg_ℤ, int_div, ℕ, ◌^◌, ℤ, pos, negsuc, ◌+ℤ◌, ◌-ℤ◌}
use Rattle.std.proofs.Common.{◌*ℤ◌, ◌≤ℤ◌, ◌⊎◌, Bool, true, false, cond, ◌&&◌, int_le, refl, sym, ap, subst, inl, inr}
use Rattle.std.proofs.Common.{arith}
use Rattle.std.specs.Int.{int_min, int_max, int_shr}
use Rattle.std.proofs.lemmas.Int.{ints, clamps, by_lt_z}
use Rattle.cjc_range.specs.Span.{Span, span, width, Holds, Within, IsWord, full, byte_range, short_range}
use Rattle.cjc_range.specs.Words.{shift_distance}
use Rattle.cjc_range.specs.Rows.{clip, over_ends, greatest_size, add_row, sub_row, mul_row, neg_row, div_row, rem_bound}
use Rattle.cjc_range.specs.Rows.{rem_within, rem_row, join_row, to_byte_row, to_short_row, shl_row, shr_row}
use Rattle.cjc_range.specs.Laws.{IsMonotone, IsMonotoneAlone, GivesWords, GivesWordsAlone}
use Rattle.cjc_range.proofs.Spans.{clip_cases, mul_up, mul_ends, div_ends, div_size, size_between}
use Rattle.cjc_range.proofs.Spans.{size_of_held, shr_up, shr_spread}
use Rattle.cjc_range.proofs.Rounding.{spans_same}

-- ---- spans

pub within_refl : (s : Span) → Within s s
within_refl s = record { low = omega (arith, ints); high = omega (arith, ints) }

pub within_trans : (s t u : Span) → Within s t → Within t u → Within s u
within_trans s t u h k = let a = h.low in let b = h.high in let c = k.low in let d = k.high
    in record { low = omega (arith, ints, a, c); high = omega (arith, ints, b, d) }

-- two spans inside one another are equal
pub within_both : (s t : Span) → Within s t → Within t s → s ≡ t
within_both s t h k = let a = h.low in let b = h.high in let c = k.low in let d = k.high
    in spans_same s.low t.low s.high t.high (omega (arith, ints, a, c)) (omega (arith, ints, b, d))

pub held_wider : (s t : Span) (x : ℤ) → Within s t → Holds s x → Holds t x
held_wider s t x h k = let a = h.low in let b = h.high in let c = k.above in let d = k.below
    in record { above = omega (arith, ints, a, c); below = omega (arith, ints, b, d) }

-- a span whose ends another holds lies inside it
pub within_from : (s t : Span) → Holds t s.low → Holds t s.high → Within s t
within_from s t h k = record { low = h.above; high = k.below }

pub low_held : (s : Span) → IsWord s → Holds s s.low
low_held s w = let a = w.ordered in record { above = omega (arith, ints); below = omega (arith, ints, a) }

pub high_held : (s : Span) → IsWord s → Holds s s.high
high_held s w = let a = w.ordered in record { above = omega (arith, ints, a); below = omega (arith, ints) }

pub word_full : IsWord full
word_full = record { within = within_refl full; ordered = omega (arith, ints) }

pub le_cases : (a b : ℤ) → (a ≤ℤ b) ⊎ (b <ℤ a)
le_cases a b = by_lt_z b a (λ h. inr h) (λ h. inl h)

-- ---- widths

-- the size of a number that is not negative is the number
size_is : (z : ℤ) → pos 0 ≤ℤ z → pos (unsigned_abs z) ≡ z
size_is (pos n) h = refl
size_is (negsuc n) h = absurd (omega (arith, ints, h))

width_is : (s : Span) → s.low ≤ℤ s.high → pos (width s) ≡ s.high -ℤ s.low
width_is s h = size_is (s.high -ℤ s.low) (omega (arith, ints, h))

wider_ordered : (s t : Span) → IsWord s → Within s t → t.low ≤ℤ t.high
wider_ordered s t w h = let a = h.low in let b = h.high in let c = w.ordered in omega (arith, ints, a, b, c)

pub width_up : (s t : Span) → IsWord s → Within s t → width s ≤ width t
width_up s t w h =
    let a = h.low in
    let b = h.high in
    let e = width_is s w.ordered in
    let f = width_is t (wider_ordered s t w h) in
    omega (arith, ints, a, b, e, f)

pub width_rises : (s t : Span) → IsWord s → Within s t → width t ≤ width s → Within t s
width_rises s t w h le =
    let a = h.low in
    let b = h.high in
    let e = width_is s w.ordered in
    let f = width_is t (wider_ordered s t w h) in
    record { low = omega (arith, ints, a, b, e, f, le); high = omega (arith, ints, a, b, e, f, le) }

pub width_small : (s : Span) → IsWord s → width s < 4294967296
width_small s w =
    let a = w.within.low in
    let b = w.within.high in
    let e = width_is s w.ordered in
    omega (arith, ints, a, b, e)

-- a choice by an order, at either answer
pub le_yes : (a b : ℤ) (x y : Span) → a ≤ℤ b → cond (int_le a b) x y ≡ x
le_yes a b x y h = go (int_le a b) refl
  where
    go : (c : Bool) → int_le a b ≡ c → cond c x y ≡ x
    go true e = refl
    go false e = absurd (grind (arith, ints, e, h))

pub le_no : (a b : ℤ) (x y : Span) → b <ℤ a → cond (int_le a b) x y ≡ y
le_no a b x y h = go (int_le a b) refl
  where
    go : (c : Bool) → int_le a b ≡ c → cond c x y ≡ y
    go true e = absurd (grind (arith, ints, e, h))
    go false e = refl

-- ---- spans cut to a range

pub clip_fits : (range s : Span) → Within s range → clip range s ≡ s
clip_fits range s h = go (int_le range.low s.low) (int_le s.high range.high) refl refl
  where
    go : (b c : Bool) → int_le range.low s.low ≡ b → int_le s.high range.high ≡ c → cond (b && c) s range ≡ s
    go true true e f = refl
    go true false e f = let a = h.high in absurd (grind (arith, ints, f, a))
    go false c e f = let a = h.low in absurd (grind (arith, ints, e, a))

clip_inside : (range s : Span) → Within (clip range s) range
clip_inside range s = elim (clip_cases range s) [
  | inl is ↦ rw is.0 is.1
  | inr is ↦ rw is (within_refl range)
]

clip_within : (range s t : Span) → Within s t → Within (clip range s) (clip range t)
clip_within range s t h = elim (clip_cases range t) [
  | inl is ↦ rw (is.0, clip_fits range s (within_trans s t range h is.1)) h
  | inr is ↦ rw is (clip_inside range s)
]

clip_word : (s : Span) → s.low ≤ℤ s.high → IsWord (clip full s)
clip_word s h = elim (clip_cases full s) [
  | inl is ↦ rw is.0 (record { within = is.1; ordered = h })
  | inr is ↦ rw is word_full
]

-- a word cut to a smaller type
clip_type : (range s : Span) → Within range full → range.low ≤ℤ range.high → IsWord s → IsWord (clip range s)
clip_type range s h o w = elim (clip_cases range s) [
  | inl is ↦ rw is.0 w
  | inr is ↦ rw is (record { within = h; ordered = o })
]

-- ---- arithmetic

-- what holds each value at the ends holds the span over the ends
ends_within : (f : ℤ → ℤ → ℤ) (s t r : Span) → IsWord s → IsWord t → ((x y : ℤ) → Holds s x → Holds t y
    → Holds r (f x y)) → Within (over_ends f s t) r
ends_within f s t r ws wt held =
    let p = held s.low t.low (low_held s ws) (low_held t wt) in
    let q = held s.low t.high (low_held s ws) (high_held t wt) in
    let m = held s.high t.low (high_held s ws) (low_held t wt) in
    let n = held s.high t.high (high_held s ws) (high_held t wt) in
    corners (f s.low t.low) (f s.low t.high) (f s.high t.low) (f s.high t.high) r p q m n
  where
    corners : (a b c d : ℤ) (r : Span) → Holds r a → Holds r b → Holds r c → Holds r d
        → Within (span (int_min (int_min a b) (int_min c d)) (int_max (int_max a b) (int_max c d))) r
    corners a b c d r p q m n =
        let i = p.above in let j = q.above in let k = m.above in let l = n.above in
        let e = p.below in let f = q.below in let g = m.below in let h = n.below in
        record { low = omega (arith, ints, clamps, i, j, k, l); high = omega (arith, ints, clamps, e, f, g, h) }

ends_ordered : (a b c d : ℤ) → int_min (int_min a b) (int_min c d) ≤ℤ int_max (int_max a b) (int_max c d)
ends_ordered a b c d = omega (arith, ints, clamps)

over_word : (f : ℤ → ℤ → ℤ) (s t : Span) → IsWord (clip full (over_ends f s t))
over_word f s t = clip_word (over_ends f s t) (ends_ordered (f s.low t.low) (f s.low t.high) (f s.high t.low)
    (f s.high t.high))

-- where the span over the ends holds each value, the row is monotone
over_monotone : (f : ℤ → ℤ → ℤ) → ((s t : Span) (x y : ℤ) → Holds s x → Holds t y → Holds (over_ends f s t) (f x y))
    → IsMonotone (λ s t. clip full (over_ends f s t))
over_monotone f held s t u v ws wt wu wv h k =
    clip_within full (over_ends f s t) (over_ends f u v)
    (ends_within f s t (over_ends f u v) ws wt (λ x y p q. held u v x y (held_wider s u x h p) (held_wider t v y k q)))

add_held : (s t : Span) (x y : ℤ) → Holds s x → Holds t y → Holds (over_ends (λ x y. x +ℤ y) s t) (x +ℤ y)
add_held s t x y h k = let a = h.above in let b = h.below in let c = k.above in let d = k.below
    in record { above = omega (arith, ints, clamps); below = omega (arith, ints, clamps) }

sub_held : (s t : Span) (x y : ℤ) → Holds s x → Holds t y → Holds (over_ends (λ x y. x -ℤ y) s t) (x -ℤ y)
sub_held s t x y h k = let a = h.above in let b = h.below in let c = k.above in let d = k.below
    in record { above = omega (arith, ints, clamps); below = omega (arith, ints, clamps) }

pub add_monotone : IsMonotone add_row
add_monotone s t u v ws wt wu wv h k = over_monotone (λ x y. x +ℤ y) add_held s t u v ws wt wu wv h k

pub sub_monotone : IsMonotone sub_row
sub_monotone s t u v ws wt wu wv h k = over_monotone (λ x y. x -ℤ y) sub_held s t u v ws wt wu wv h k

pub mul_monotone : IsMonotone mul_row
mul_monotone s t u v ws wt wu wv h k = over_monotone (λ x y. x *ℤ y) mul_ends s t u v ws wt wu wv h k

pub add_word : GivesWords add_row
add_word s t ws wt = over_word (λ x y. x +ℤ y) s t

pub sub_word : GivesWords sub_row
sub_word s t ws wt = over_word (λ x y. x -ℤ y) s t

pub mul_word : GivesWords mul_row
mul_word s t ws wt = over_word (λ x y. x *ℤ y) s t

pub neg_monotone : IsMonotoneAlone neg_row
neg_monotone s t ws wt h =
    let a = h.low in let b = h.high in
    clip_within full (span (int_min (neg_ℤ s.low) (neg_ℤ s.high)) (int_max (neg_ℤ s.low) (neg_ℤ s.high)))
    (span (int_min (neg_ℤ t.low) (neg_ℤ t.high)) (int_max (neg_ℤ t.low) (neg_ℤ t.high)))
    (let c = ws.ordered in record {
      low = omega (arith, ints, clamps, a, b, c);
      high = omega (
        arith,
        ints,
        clamps,
        a,
        b,
        c,
      );
    })

pub neg_word : GivesWordsAlone neg_row
neg_word s ws = clip_word (span (int_min (neg_ℤ s.low) (neg_ℤ s.high)) (int_max (neg_ℤ s.low) (neg_ℤ s.high)))
    (omega (arith, ints, clamps))

size_up : (s t : Span) → IsWord s → Within s t → greatest_size s ≤ greatest_size t
size_up s t w h =
    let a = size_of_held t s.low (held_wider s t s.low h (low_held s w)) in
    let b = size_of_held t s.high (held_wider s t s.high h (high_held s w)) in
    omega (arith, a, b)

abbrev sized : ℕ → Span
sized n = span (neg_ℤ (pos n)) (pos n)

sized_up : (m n : ℕ) → m ≤ n → Within (sized m) (sized n)
sized_up m n h = record { low = omega (arith, ints, h); high = omega (arith, ints, h) }

abbrev quotients : Span → Span → Span
quotients s t = over_ends (λ x y. int_div x y) s t

div_small : (s t : Span) → pos 1 ≤ℤ t.low → div_row s t ≡ clip full (quotients s t)
div_small s t h = ap (clip full) (le_yes (pos 1) t.low (quotients s t) (sized (greatest_size s)) h)

div_other : (s t : Span) → t.low <ℤ pos 1 → div_row s t ≡ clip full (sized (greatest_size s))
div_other s t h = ap (clip full) (le_no (pos 1) t.low (quotients s t) (sized (greatest_size s)) h)

-- a quotient of the narrower operands lies in the wider row
quotients_within : (s t u v : Span) → IsWord s → IsWord t → Within s u → Within t v → pos 1 ≤ℤ t.low
    → Within (clip full (quotients s t)) (div_row u v)
quotients_within s t u v ws wt h k p = elim (le_cases (pos 1) v.low) [
  | inl some ↦ rw (div_small u v some) (clip_within full (quotients s t) (quotients u v)
      (ends_within (λ x y. int_div x y) s t (quotients u v) ws wt (λ x y i j. div_ends u v x y some
      (held_wider s u x h i) (held_wider t v y k j))))
  | inr none ↦ rw (div_other u v none) (clip_within full (quotients s t) (sized (greatest_size u))
      (ends_within (λ x y. int_div x y) s t (sized (greatest_size u)) ws wt (λ x y i j. size_between (greatest_size u)
      (int_div x y) (let a = div_size x y in let b = size_of_held u x (held_wider s u x h i)
      in omega (arith, a, b)))))
]

pub div_monotone : IsMonotone div_row
div_monotone s t u v ws wt wu wv h k = elim (le_cases (pos 1) t.low) [
  | inl some ↦ rw (div_small s t some) (quotients_within s t u v ws wt h k some)
  | inr none ↦ rw (div_other s t none, div_other u v (let a = k.low in omega (arith, ints, a, none)))
      (clip_within full (sized (greatest_size s)) (sized (greatest_size u)) (sized_up _ _ (size_up s u ws h)))
]

pub div_word : GivesWords div_row
div_word s t ws wt = elim (le_cases (pos 1) t.low) [
  | inl some ↦ rw (div_small s t some) (over_word (λ x y. int_div x y) s t)
  | inr none ↦ rw (div_other s t none) (clip_word (sized (greatest_size s)) (omega (arith, ints)))
]

rem_up : (s u : Span) (m n : ℕ) → IsWord s → Within s u → m ≤ n → Within (rem_within s m) (rem_within u n)
rem_up s u m n ws h le = go (int_le (pos 0) s.low) (int_le s.high (pos 0)) (int_le (pos 0) u.low)
    (int_le u.high (pos 0)) refl refl refl refl
  where
    lows : (b d : Bool) → int_le (pos 0) s.low ≡ b → int_le (pos 0) u.low ≡ d
        → cond d (pos 0) (neg_ℤ (pos n)) ≤ℤ cond b (pos 0) (neg_ℤ (pos m))
    lows true true e f = omega (arith, ints)
    lows true false e f = omega (arith, ints)
    lows false true e f = let a = h.low in absurd (grind (arith, ints, e, f, a))
    lows false false e f = omega (arith, ints, le)

    highs : (c d : Bool) → int_le s.high (pos 0) ≡ c → int_le u.high (pos 0) ≡ d
        → cond c (pos 0) (pos m) ≤ℤ cond d (pos 0) (pos n)
    highs true true e f = omega (arith, ints)
    highs true false e f = omega (arith, ints)
    highs false true e f = let a = h.high in absurd (grind (arith, ints, e, f, a))
    highs false false e f = omega (arith, ints, le)

    go : (b c d i : Bool) → int_le (pos 0) s.low ≡ b → int_le s.high (pos 0) ≡ c → int_le (pos 0) u.low ≡ d
        → int_le u.high (pos 0) ≡ i → Within (span (cond b (pos 0) (neg_ℤ (pos m))) (cond c (pos 0) (pos m)))
        (span (cond d (pos 0) (neg_ℤ (pos n))) (cond i (pos 0) (pos n)))
    go b c d i e f g j = record { low = lows b d e g; high = highs c i f j }

pub rem_monotone : IsMonotone rem_row
rem_monotone s t u v ws wt wu wv h k = rem_up s u (rem_bound s t) (rem_bound u v) ws h (let a = size_up s u ws h
    in let b = size_up t v wt k in omega (arith, a, b))

size_small : (t : Span) → IsWord t → greatest_size t ≤ 2147483648
size_small t w = size_up t full w w.within

pub rem_word : GivesWords rem_row
rem_word s t ws wt = go (int_le (pos 0) s.low) (int_le s.high (pos 0))
  where
    small : rem_bound s t ≤ 2147483647
    small = let a = size_small t wt in omega (arith, a)

    go : (b c : Bool)
        → IsWord (span (cond b (pos 0) (neg_ℤ (pos (rem_bound s t)))) (cond c (pos 0) (pos (rem_bound s t))))
    go true true = record {
      within = record { low = omega (arith, ints); high = omega (arith, ints) };
      ordered = omega (arith, ints);
    }
    go true false = let a = small in record {
      within = record {
        low = omega (arith, ints);
        high = omega (arith, ints, a);
      };
      ordered = omega (arith, ints);
    }
    go false true = let a = small in record {
      within = record {
        low = omega (arith, ints, a);
        high = omega (arith, ints);
      };
      ordered = omega (arith, ints);
    }
    go false false = let a = small in record {
      within = record {
        low = omega (arith, ints, a);
        high = omega (arith, ints, a);
      };
      ordered = omega (arith, ints);
    }

-- ---- joins

pub join_left : (s t : Span) → Within s (join_row s t)
join_left s t = record { low = omega (arith, ints, clamps); high = omega (arith, ints, clamps) }

pub join_right : (s t : Span) → Within t (join_row s t)
join_right s t = record { low = omega (arith, ints, clamps); high = omega (arith, ints, clamps) }

pub join_least : (s t u : Span) → Within s u → Within t u → Within (join_row s t) u
join_least s t u h k = let a = h.low in let b = h.high in let c = k.low in let d = k.high
    in record { low = omega (arith, ints, clamps, a, c); high = omega (arith, ints, clamps, b, d) }

pub join_monotone : IsMonotone join_row
join_monotone s t u v ws wt wu wv h k = join_least s t (join_row u v) (within_trans s u (join_row u v) h
    (join_left u v)) (within_trans t v (join_row u v) k (join_right u v))

pub join_word : GivesWords join_row
join_word s t h k = record {
  within = join_least s t full h.within k.within;
  ordered = let a = h.ordered
      in omega (arith, ints, clamps, a);
}

-- ---- types

pub to_byte_monotone : IsMonotoneAlone to_byte_row
to_byte_monotone s t ws wt h = clip_within byte_range s t h

pub to_short_monotone : IsMonotoneAlone to_short_row
to_short_monotone s t ws wt h = clip_within short_range s t h

pub to_byte_word : GivesWordsAlone to_byte_row
to_byte_word s w = clip_type byte_range s (record { low = omega (arith, ints); high = omega (arith, ints) })
    (omega (arith, ints)) w

pub to_short_word : GivesWordsAlone to_short_row
to_short_word s w = clip_type short_range s (record { low = omega (arith, ints); high = omega (arith, ints) })
    (omega (arith, ints)) w

-- ---- shifts

-- what lies inside one distance is that distance
pub one_distance : (t v : Span) → IsWord t → Within t v → v.high ≤ℤ v.low → t ≡ v
one_distance t v w k one = let a = w.ordered in let b = k.low in let c = k.high in spans_same t.low v.low t.high v.high
    (omega (arith, ints, a, b, c, one)) (omega (arith, ints, a, b, c, one))

abbrev shifted_up : Span → ℕ → Span
shifted_up s k = span (s.low *ℤ pos (2 ^ k)) (s.high *ℤ pos (2 ^ k))

abbrev pub shifted_down : Span → ℕ → Span
shifted_down s k = span (int_shr s.low k) (int_shr s.high k)

abbrev spread : Span → Span
spread s = span (int_min s.low (pos 0)) (int_max s.high (negsuc 0))

shl_one : (s t : Span) → t.high ≤ℤ t.low → shl_row s t ≡ clip full (shifted_up s (shift_distance t.low))
shl_one s t h = le_yes t.high t.low (clip full (shifted_up s (shift_distance t.low))) full h

shl_many : (s t : Span) → t.low <ℤ t.high → shl_row s t ≡ full
shl_many s t h = le_no t.high t.low (clip full (shifted_up s (shift_distance t.low))) full h

pub shl_word : GivesWords shl_row
shl_word s t ws wt = elim (le_cases t.high t.low) [
  | inl one ↦ rw (shl_one s t one) (clip_word (shifted_up s (shift_distance t.low))
      (mul_up s.low s.high (2 ^ shift_distance t.low) ws.ordered))
  | inr many ↦ rw (shl_many s t many) word_full
]

pub shl_monotone : IsMonotone shl_row
shl_monotone s t u v ws wt wu wv h k = elim (le_cases v.high v.low) [
  | inl one ↦ subst (λ (t : Span). Within (shl_row s t) (shl_row u v)) (sym (one_distance t v wt k one))
      (rw (shl_one s v one, shl_one u v one) (clip_within full (shifted_up s (shift_distance v.low))
      (shifted_up u (shift_distance v.low))
      (record {
        low = mul_up u.low s.low (2 ^ shift_distance v.low) h.low;
        high = mul_up s.high u.high (2 ^ shift_distance v.low) h.high;
      })))
  | inr many ↦ rw (shl_many u v many) (shl_word s t ws wt).within
]

shr_one : (s t : Span) → t.high ≤ℤ t.low → shr_row s t ≡ shifted_down s (shift_distance t.low)
shr_one s t h = le_yes t.high t.low (shifted_down s (shift_distance t.low)) (spread s) h

shr_many : (s t : Span) → t.low <ℤ t.high → shr_row s t ≡ spread s
shr_many s t h = le_no t.high t.low (shifted_down s (shift_distance t.low)) (spread s) h

-- any shift of a part lies in the spread
down_within : (s u : Span) (k : ℕ) → IsWord s → Within s u → Within (shifted_down s k) (spread u)
down_within s u k w h =
    let p = held_wider s u s.low h (low_held s w) in let q = held_wider s u s.high h (high_held s w) in
    within_from (shifted_down s k) (spread u) (shr_spread u.low u.high s.low k p.above p.below) (shr_spread u.low u.high
    s.high k q.above q.below)

spread_up : (s u : Span) → Within s u → Within (spread s) (spread u)
spread_up s u h = let a = h.low in let b = h.high in record {
  low = omega (arith, ints, clamps, a);
  high = omega (arith, ints, clamps, b);
}

pub shr_monotone : IsMonotone shr_row
shr_monotone s t u v ws wt wu wv h k = elim (le_cases v.high v.low) [
  | inl one ↦ subst (λ (t : Span). Within (shr_row s t) (shr_row u v)) (sym (one_distance t v wt k one))
      (rw (shr_one s v one, shr_one u v one) (record {
        low = shr_up u.low s.low (shift_distance v.low) h.low;
        high = shr_up s.high u.high (shift_distance v.low) h.high;
      }))
  | inr many ↦ rw (shr_many u v many) (elim (le_cases t.high t.low) [
    | inl one ↦ rw (shr_one s t one) (down_within s u (shift_distance t.low) ws h)
    | inr some ↦ rw (shr_many s t some) (spread_up s u h)
  ])
]

spread_full : (s : Span) → IsWord s → IsWord (spread s)
spread_full s w = let a = w.within.low in let b = w.within.high in let c = w.ordered
    in record {
      within = record { low = omega (arith, ints, clamps, a); high = omega (arith, ints, clamps, b) };
      ordered = omega (arith, ints, clamps, c);
    }

pub down_word : (s : Span) (k : ℕ) → IsWord s → IsWord (shifted_down s k)
down_word s k w = record {
  within = within_trans (shifted_down s k) (spread s) full
      (down_within s s k w (within_refl s)) (spread_full s w).within;
  ordered = shr_up s.low s.high k w.ordered;
}

pub shr_word : GivesWords shr_row
shr_word s t ws wt = elim (le_cases t.high t.low) [
  | inl one ↦ rw (shr_one s t one) (down_word s (shift_distance t.low) ws)
  | inr many ↦ rw (shr_many s t many) (spread_full s ws)
]
