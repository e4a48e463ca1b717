-- The rows of the shift without sign and of bits, on operands inside wider ones.
use Rattle.std.proofs.Common.{◌≡◌, zero, suc, ◌≤◌, ◌<ℤ◌, neg_ℤ, max, ◌/◌, ◌-◌, ◌==◌, ℕ, ◌<◌, ◌^◌, ℤ, pos, negsuc, ◌+ℤ◌}
use Rattle.std.proofs.Common.{◌-ℤ◌, ◌≤ℤ◌, ◌⊎◌, Bool, true, false, cond, ◌&&◌, int_le, int_lt, refl, sym, ◌∙◌, subst}
use Rattle.std.proofs.Common.{inl, inr, arith}
use Rattle.std.specs.Int.{int_min, int_shr}
use Rattle.std.specs.Int.Signed.{mag}
use Rattle.std.proofs.Math.Pow.{pow_mono}
use Rattle.std.proofs.Math.Nat.{div-le_self}
use Rattle.std.proofs.lemmas.Int.{ints, clamps}
use Rattle.std.proofs.lemmas.Bool.Decides.{nat_tests}
use Rattle.cjc_range.specs.Span.{Span, span, Within, IsWord, full}
use Rattle.cjc_range.specs.Words.{shift_distance}
use Rattle.cjc_range.specs.Rows.{ushr_by, ushr_row, of_bits, greatest_mag, least_bits, or_row, and_row}
use Rattle.cjc_range.specs.Laws.{IsMonotone, GivesWords}
use Rattle.cjc_range.proofs.Spans.{shr_up, shr_of_neg, bits_half, half_lt}
use Rattle.cjc_range.proofs.Bits.{word_fits, greatest_small, least_bits_up, least_bits_small, or_row_fits}
use Rattle.cjc_range.proofs.Order.{within_refl, within_trans, low_held, high_held, held_wider, word_full, le_cases}
use Rattle.cjc_range.proofs.Order.{le_yes, le_no, one_distance, down_word}

-- ---- shifts without sign, by one distance

-- the four cases of the row
abbrev whole : ℕ → Span
whole k = span (pos 0) (pos ((2 ^ 32 - 1) / 2 ^ k))

abbrev down : Span → ℕ → Span
down s k = span (int_shr s.low k) (int_shr s.high k)

abbrev from_top : Span → ℕ → Span
from_top s k = span (int_shr (s.low +ℤ pos (2 ^ 32)) k) (int_shr (s.high +ℤ pos (2 ^ 32)) k)

record IsByCase (s : Span) (k : ℕ) : Type 0 where
  none : k ≡ 0 → ushr_by s k ≡ s
  up : 0 < k → pos 0 ≤ℤ s.low → ushr_by s k ≡ down s k
  negative : 0 < k → s.low <ℤ pos 0 → s.high <ℤ pos 0 → ushr_by s k ≡ from_top s k
  mixed : 0 < k → s.low <ℤ pos 0 → pos 0 ≤ℤ s.high → ushr_by s k ≡ whole k

by_cases : (s : Span) (k : ℕ) → IsByCase s k
by_cases s k = record {
  none = λ e. zeroth e (k == 0) refl;
  up = λ p h. upper p h (k == 0) (int_le (pos 0) s.low) refl
      refl;
  negative = λ p h i. lower p h i (k == 0) (int_le (pos 0) s.low) (int_lt s.high (pos 0)) refl refl refl;
  mixed = λ p h i. both p h i (k == 0) (int_le (pos 0) s.low) (int_lt s.high (pos 0)) refl refl refl;
}
  where
    zeroth : k ≡ 0 → (b : Bool) → (k == 0) ≡ b
        → cond b s (cond (int_le (pos 0) s.low) (down s k) (cond (int_lt s.high (pos 0)) (from_top s k) (whole k))) ≡ s
    zeroth e true t = refl
    zeroth e false t = absurd (grind (arith, nat_tests, e, t))

    upper : 0 < k → pos 0 ≤ℤ s.low → (b c : Bool) → (k == 0) ≡ b → int_le (pos 0) s.low ≡ c
        → cond b s (cond c (down s k) (cond (int_lt s.high (pos 0)) (from_top s k) (whole k))) ≡ down s k
    upper p h true c e f = absurd (grind (arith, nat_tests, e, p))
    upper p h false true e f = refl
    upper p h false false e f = absurd (grind (arith, ints, f, h))

    lower : 0 < k → s.low <ℤ pos 0 → s.high <ℤ pos 0 → (b c d : Bool) → (k == 0) ≡ b → int_le (pos 0) s.low ≡ c
        → int_lt s.high (pos 0) ≡ d → cond b s (cond c (down s k) (cond d (from_top s k) (whole k))) ≡ from_top s k
    lower p h i true c d e f g = absurd (grind (arith, nat_tests, e, p))
    lower p h i false true d e f g = absurd (grind (arith, ints, f, h))
    lower p h i false false true e f g = refl
    lower p h i false false false e f g = absurd (grind (arith, ints, g, i))

    both : 0 < k → s.low <ℤ pos 0 → pos 0 ≤ℤ s.high → (b c d : Bool) → (k == 0) ≡ b → int_le (pos 0) s.low ≡ c
        → int_lt s.high (pos 0) ≡ d → cond b s (cond c (down s k) (cond d (from_top s k) (whole k))) ≡ whole k
    both p h i true c d e f g = absurd (grind (arith, nat_tests, e, p))
    both p h i false true d e f g = absurd (grind (arith, ints, f, h))
    both p h i false false true e f g = absurd (grind (arith, ints, g, i))
    both p h i false false false e f g = refl

-- how the ends lie to 0
data Sides (s : Span) : Type 0 where
  up : pos 0 ≤ℤ s.low → Sides s
  negative : s.low <ℤ pos 0 → s.high <ℤ pos 0 → Sides s
  mixed : s.low <ℤ pos 0 → pos 0 ≤ℤ s.high → Sides s

sides : (s : Span) → Sides s
sides s = elim (le_cases (pos 0) s.low) [
  | inl h ↦ up h
  | inr h ↦ elim (le_cases (pos 0) s.high) [
    | inl i ↦ mixed h i
    | inr i ↦ negative h i
  ]
]

shr_nonneg : (z : ℤ) (k : ℕ) → pos 0 ≤ℤ z → pos 0 ≤ℤ int_shr z k
shr_nonneg (pos n) k h = omega (arith, ints)
shr_nonneg (negsuc n) k h = absurd (omega (arith, ints, h))

shr_less : (z : ℤ) (k : ℕ) → pos 0 ≤ℤ z → int_shr z k ≤ℤ z
shr_less (pos n) k h = let e = div-le_self n (2 ^ k) in omega (arith, ints, e)
shr_less (negsuc n) k h = absurd (omega (arith, ints, h))

shr_whole : (z : ℤ) (k : ℕ) → z ≤ℤ pos (2 ^ 32 - 1) → int_shr z k ≤ℤ pos ((2 ^ 32 - 1) / 2 ^ k)
shr_whole z k h = shr_up z (pos (2 ^ 32 - 1)) k h

down_whole : (s : Span) (k : ℕ) → IsWord s → pos 0 ≤ℤ s.low → Within (down s k) (whole k)
down_whole s k w h = record {
  low = shr_nonneg s.low k h;
  high = shr_whole s.high k (let a = w.within.high
      in omega (arith, ints, a));
}

top_whole : (s : Span) (k : ℕ) → IsWord s → s.high <ℤ pos 0 → Within (from_top s k) (whole k)
top_whole s k w h = record {
  low = shr_nonneg (s.low +ℤ pos (2 ^ 32)) k (let a = w.within.low
      in omega (arith, ints, a));
  high = shr_whole (s.high +ℤ pos (2 ^ 32)) k (omega (arith, ints, h));
}

by_some : (s u : Span) (k : ℕ) → IsWord s → IsWord u → Within s u → 0 < k → Within (ushr_by s k) (ushr_by u k)
by_some s u k ws wu h p = go (sides s) (sides u)
  where
    go : Sides s → Sides u → Within (ushr_by s k) (ushr_by u k)
    go (up a) (up b) = rw ((by_cases s k).up p a, (by_cases u k).up p b) (record {
      low = shr_up u.low s.low k h.low;
      high = shr_up s.high u.high k h.high;
    })
    go (up a) (negative b c) = let d = h.high in let e = ws.ordered in absurd (omega (arith, ints, a, c, d, e))
    go (up a) (mixed b c) = rw ((by_cases s k).up p a, (by_cases u k).mixed p b c) (down_whole s k ws a)
    go (negative a d) (up b) = let e = h.low in absurd (omega (arith, ints, a, b, e))
    go (negative a d) (negative b c) = rw ((by_cases s k).negative p a d, (by_cases u k).negative p b c)
        (record {
          low = shr_up (u.low +ℤ pos (2 ^ 32)) (s.low +ℤ pos (2 ^ 32)) k (let e = h.low
              in omega (arith, ints, e));
          high = shr_up (s.high +ℤ pos (2 ^ 32)) (u.high +ℤ pos (2 ^ 32)) k (let e =
              h.high in omega (arith, ints, e));
        })
    go (negative a d) (mixed b c) = rw ((by_cases s k).negative p a d, (by_cases u k).mixed p b c) (top_whole s k ws d)
    go (mixed a d) (up b) = let e = h.low in absurd (omega (arith, ints, a, b, e))
    go (mixed a d) (negative b c) = let e = h.high in absurd (omega (arith, ints, d, c, e))
    go (mixed a d) (mixed b c) = rw ((by_cases s k).mixed p a d, (by_cases u k).mixed p b c) (within_refl (whole k))

zero_or : (k : ℕ) → (k ≡ 0) ⊎ (0 < k)
zero_or zero = inl refl
zero_or (suc k) = inr (omega arith)

by_monotone : (s u : Span) (k : ℕ) → IsWord s → IsWord u → Within s u → Within (ushr_by s k) (ushr_by u k)
by_monotone s u k ws wu h = elim (zero_or k) [
  | inl none ↦ rw ((by_cases s k).none none, (by_cases u k).none none) h
  | inr some ↦ by_some s u k ws wu h some
]

by_some_word : (s : Span) (k : ℕ) → IsWord s → 0 < k → IsWord (ushr_by s k)
by_some_word s k w p = go (sides s)
  where
    top_word : s.low <ℤ pos 0 → s.high <ℤ pos 0 → IsWord (from_top s k)
    top_word a b =
        let f = word_fits s s.high w (high_held s w) in
        let e = shr_of_neg s.high k f b in
        let m = bits_half s.high k f p in
        let q : int_shr (s.high +ℤ pos (2 ^ 32)) k ≤ℤ pos 2147483647 = rw e (omega (arith, ints, m)) in
        let r = shr_nonneg (s.low +ℤ pos (2 ^ 32)) k (let c = w.within.low in omega (arith, ints, c)) in
        record {
          within = record { low = omega (arith, ints, r); high = q };
          ordered = shr_up (s.low +ℤ pos (2 ^ 32)) (s.high +ℤ pos (2 ^ 32)) k (let c = w.ordered
              in omega (arith, ints, c));
        }

    go : Sides s → IsWord (ushr_by s k)
    go (up a) = rw ((by_cases s k).up p a) (down_word s k w)
    go (negative a b) = rw ((by_cases s k).negative p a b) (top_word a b)
    go (mixed a b) = rw ((by_cases s k).mixed p a b) (let e = half_lt (2 ^ 32 - 1) k (omega arith) p
        in record {
          within = record { low = omega (arith, ints); high = omega (arith, ints, e) };
          ordered = omega (arith, ints);
        })

by_word : (s : Span) (k : ℕ) → IsWord s → IsWord (ushr_by s k)
by_word s k w = elim (zero_or k) [
  | inl none ↦ rw ((by_cases s k).none none) w
  | inr some ↦ by_some_word s k w some
]

-- ---- by any distance

abbrev any_by : Span → Span
any_by s = cond (int_le (pos 0) s.low) (span (pos 0) s.high) full

ushr_one : (s t : Span) → t.high ≤ℤ t.low → ushr_row s t ≡ ushr_by s (shift_distance t.low)
ushr_one s t h = le_yes t.high t.low (ushr_by s (shift_distance t.low)) (any_by s) h

ushr_many : (s t : Span) → t.low <ℤ t.high → ushr_row s t ≡ any_by s
ushr_many s t h = le_no t.high t.low (ushr_by s (shift_distance t.low)) (any_by s) h

any_up : (s : Span) → pos 0 ≤ℤ s.low → any_by s ≡ span (pos 0) s.high
any_up s h = le_yes (pos 0) s.low (span (pos 0) s.high) full h

any_full : (s : Span) → s.low <ℤ pos 0 → any_by s ≡ full
any_full s h = le_no (pos 0) s.low (span (pos 0) s.high) full h

any_word : (s : Span) → IsWord s → IsWord (any_by s)
any_word s w = elim (le_cases (pos 0) s.low) [
  | inl h ↦ rw (any_up s h) (let a = w.within.high in let b = w.ordered
      in record { within = record { low = omega (arith, ints); high = a }; ordered = omega (arith, ints, h, b) })
  | inr h ↦ rw (any_full s h) word_full
]

pub ushr_word : GivesWords ushr_row
ushr_word s t ws wt = elim (le_cases t.high t.low) [
  | inl one ↦ rw (ushr_one s t one) (by_word s (shift_distance t.low) ws)
  | inr many ↦ rw (ushr_many s t many) (any_word s ws)
]

-- a shift of numbers that are not negative only lessens them
by_lessens : (s : Span) (k : ℕ) → IsWord s → pos 0 ≤ℤ s.low → Within (ushr_by s k) (span (pos 0) s.high)
by_lessens s k w h = elim (zero_or k) [
  | inl none ↦ rw ((by_cases s k).none none) (record { low = h; high = omega (arith, ints) })
  | inr some ↦ rw ((by_cases s k).up some h) (record {
    low = shr_nonneg s.low k h;
    high = shr_less s.high k (let a = w.ordered in omega (arith, ints, a, h));
  })
]

many_monotone : (s t u : Span) → IsWord s → IsWord t → Within s u → Within (ushr_row s t) (any_by u)
many_monotone s t u ws wt h = elim (le_cases (pos 0) u.low) [
  | inl above ↦
      let low : pos 0 ≤ℤ s.low = let a = h.low in omega (arith, ints, above, a) in
      let wider : Within (span (pos 0) s.high) (span (pos 0) u.high) = record {
        low = omega (arith, ints);
        high = h.high;
      } in
      rw (any_up u above) (elim (le_cases t.high t.low) [
        | inl one ↦ rw (ushr_one s t one) (within_trans (ushr_by s (shift_distance t.low)) (span (pos 0) s.high)
            (span (pos 0) u.high) (by_lessens s (shift_distance t.low) ws low) wider)
        | inr many ↦ rw (ushr_many s t many, any_up s low) wider
      ])
  | inr below ↦ rw (any_full u below) (ushr_word s t ws wt).within
]

pub ushr_monotone : IsMonotone ushr_row
ushr_monotone s t u v ws wt wu wv h k = elim (le_cases v.high v.low) [
  | inl one ↦ subst (λ (t : Span). Within (ushr_row s t) (ushr_row u v)) (sym (one_distance t v wt k one))
      (rw (ushr_one s v one, ushr_one u v one) (by_monotone s u (shift_distance v.low) ws wu h))
  | inr many ↦ rw (ushr_many u v many) (many_monotone s t u ws wt h)
]

-- ---- bits

mag_between : (a b z : ℤ) → a ≤ℤ z → z ≤ℤ b → mag z ≤ max (mag a) (mag b)
mag_between a (pos b) (pos z) h k = omega (arith, ints, k)
mag_between a (negsuc b) (pos z) h k = absurd (omega (arith, ints, k))
mag_between (pos a) b (negsuc z) h k = absurd (omega (arith, ints, h))
mag_between (negsuc a) b (negsuc z) h k = omega (arith, ints, h)

mag_up : (s t u v : Span) → IsWord s → IsWord t → Within s u → Within t v → greatest_mag s t ≤ greatest_mag u v
mag_up s t u v ws wt h k =
    let p = held_wider s u s.low h (low_held s ws) in let q = held_wider s u s.high h (high_held s ws) in
    let m = held_wider t v t.low k (low_held t wt) in let n = held_wider t v t.high k (high_held t wt) in
    let a = mag_between u.low u.high s.low p.above p.below in let b = mag_between u.low u.high s.high q.above q.below in
    let c = mag_between v.low v.high t.low m.above m.below in let d = mag_between v.low v.high t.high n.above n.below in
    omega (arith, a, b, c, d)

bits_monotone : (s t u v : Span) (j k : ℕ) → Within s u → Within t v → j ≤ k → Within (of_bits s t j) (of_bits u v k)
bits_monotone s t u v j k h i le = go (int_le (pos 0) s.low) (int_le (pos 0) t.low) (int_le (pos 0) u.low)
    (int_le (pos 0) v.low) refl refl refl refl
  where
    more : 2 ^ j ≤ 2 ^ k
    more = pow_mono {i = j} {j = k} le

    lows : (a b : Bool) → (b ≡ true → a ≡ true) → cond b (pos 0) (neg_ℤ (pos (2 ^ k))) ≤ℤ cond a (pos 0)
        (neg_ℤ (pos (2 ^ j)))
    lows true true is = omega (arith, ints)
    lows true false is = omega (arith, ints)
    lows false true is = absurd (let e = is refl in cc)
    lows false false is = let m = more in omega (arith, ints, m)

    carried : (a b c d : Bool) → int_le (pos 0) s.low ≡ a → int_le (pos 0) t.low ≡ b → int_le (pos 0) u.low ≡ c
        → int_le (pos 0) v.low ≡ d → (c && d) ≡ true → (a && b) ≡ true
    carried true true c d e f g i is = refl
    carried a b false d e f g i is = absurd (cc)
    carried a b true false e f g i is = absurd (cc)
    carried false b true true e f g i is = let l = h.low in absurd (grind (arith, ints, e, g, l))
    carried true false true true e f g j is = let l = i.low in absurd (grind (arith, ints, f, j, l))

    go : (a b c d : Bool) → int_le (pos 0) s.low ≡ a → int_le (pos 0) t.low ≡ b → int_le (pos 0) u.low ≡ c
        → int_le (pos 0) v.low ≡ d → Within (span (cond (a && b) (pos 0) (neg_ℤ (pos (2 ^ j)))) (pos (2 ^ j) -ℤ pos 1))
        (span (cond (c && d) (pos 0) (neg_ℤ (pos (2 ^ k)))) (pos (2 ^ k) -ℤ pos 1))
    go a b c d e f g i = record {
      low = lows (a && b) (c && d) (carried a b c d e f g i);
      high = let m = more
          in omega (arith, ints, m);
    }

pub or_monotone : IsMonotone or_row
or_monotone s t u v ws wt wu wv h k =
    bits_monotone s t u v (least_bits (greatest_mag s t)) (least_bits (greatest_mag u v)) h k
    (least_bits_up (greatest_mag s t) (greatest_mag u v) (mag_up s t u v ws wt h k) (greatest_small u v wu wv))

pub or_word : GivesWords or_row
or_word s t ws wt = go (int_le (pos 0) s.low && int_le (pos 0) t.low)
  where
    some : 1 ≤ 2 ^ least_bits (greatest_mag s t)
    some = pow_mono {i = 0} {j = least_bits (greatest_mag s t)} (omega arith)

    small : 2 ^ least_bits (greatest_mag s t) ≤ 2147483648
    small = pow_mono {i = least_bits (greatest_mag s t)} {j = 31} (least_bits_small (greatest_mag s t)
        (greatest_small s t ws wt))

    go : (b : Bool) → IsWord (span (cond b (pos 0) (neg_ℤ (pos (2 ^ least_bits (greatest_mag s t)))))
        (pos (2 ^ least_bits (greatest_mag s t)) -ℤ pos 1))
    go true = let a = some in let b = small in record {
      within = record {
        low = omega (arith, ints);
        high = omega (arith, ints, a, b);
      };
      ordered = omega (arith, ints, a);
    }
    go false = let a = some in let b = small in record {
      within = record {
        low = omega (arith, ints, b);
        high = omega (arith, ints, a, b);
      };
      ordered = omega (arith, ints, a);
    }

-- the four cases of the row
record IsAndCase (s t : Span) : Type 0 where
  both : pos 0 ≤ℤ s.low → pos 0 ≤ℤ t.low → and_row s t ≡ span (pos 0) (int_min s.high t.high)
  left : pos 0 ≤ℤ s.low → t.low <ℤ pos 0 → and_row s t ≡ span (pos 0) s.high
  right : s.low <ℤ pos 0 → pos 0 ≤ℤ t.low → and_row s t ≡ span (pos 0) t.high
  neither : s.low <ℤ pos 0 → t.low <ℤ pos 0 → and_row s t ≡ or_row s t

and_cases : (s t : Span) → IsAndCase s t
and_cases s t =
    let upper = cond (int_le (pos 0) t.low) (span (pos 0) (int_min s.high t.high)) (span (pos 0) s.high) in
    let lower = cond (int_le (pos 0) t.low) (span (pos 0) t.high) (or_row s t) in
    record {
      both = λ h k. le_yes (pos 0) s.low upper lower h ∙ le_yes (pos 0) t.low (span (pos 0) (int_min s.high t.high))
          (span (pos 0) s.high) k;
      left = λ h k. le_yes (pos 0) s.low upper lower h ∙ le_no (pos 0) t.low (span (pos 0) (int_min s.high t.high))
          (span (pos 0) s.high) k;
      right = λ h k. le_no (pos 0) s.low upper lower h ∙ le_yes (pos 0) t.low (span (pos 0) t.high) (or_row s t) k;
      neither = λ h k. le_no (pos 0) s.low upper lower h ∙ le_no (pos 0) t.low (span (pos 0) t.high) (or_row s t) k;
    }

-- how two low ends lie to 0
data Signs (s t : Span) : Type 0 where
  both : pos 0 ≤ℤ s.low → pos 0 ≤ℤ t.low → Signs s t
  left : pos 0 ≤ℤ s.low → t.low <ℤ pos 0 → Signs s t
  right : s.low <ℤ pos 0 → pos 0 ≤ℤ t.low → Signs s t
  neither : s.low <ℤ pos 0 → t.low <ℤ pos 0 → Signs s t

signs : (s t : Span) → Signs s t
signs s t = elim (le_cases (pos 0) s.low) [
  | inl a ↦ elim (le_cases (pos 0) t.low) [
    | inl b ↦ both a b
    | inr b ↦ left a b
  ]
  | inr a ↦ elim (le_cases (pos 0) t.low) [
    | inl b ↦ right a b
    | inr b ↦ neither a b
  ]
]

low_end : (b : Bool) (n : ℕ) → cond b (pos 0) (neg_ℤ (pos n)) ≤ℤ pos 0
low_end true n = omega (arith, ints)
low_end false n = omega (arith, ints)

-- the numbers of as many bits hold those from 0 to either high end
or_covers : (u v : Span) (z : ℤ) → IsWord u → IsWord v → (z ≤ℤ u.high) ⊎ (z ≤ℤ v.high)
    → Within (span (pos 0) z) (or_row u v)
or_covers u v z wu wv h =
    let m = or_row_fits u v wu wv in
    let a = m.ends.high_left.below in let b = m.ends.high_right.below in
    rw m.is (record {
      low = low_end (int_le (pos 0) u.low && int_le (pos 0) v.low) (2 ^ m.bits);
      high = elim h [
        | inl i ↦ omega (arith, ints, a, i)
        | inr i ↦ omega (arith, ints, b, i)
      ];
    })

pub and_word : GivesWords and_row
and_word s t ws wt = go (signs s t)
  where
    go : Signs s t → IsWord (and_row s t)
    go (both a b) = rw ((and_cases s t).both a b) (let c = ws.within.high in let d = wt.within.high
        in let e = ws.ordered in let f = wt.ordered in record {
          within = record {
            low = omega (arith, ints);
            high = omega (arith, ints, clamps, c, d);
          };
          ordered = omega (arith, ints, clamps, a, b, e, f);
        })
    go (left a b) = rw ((and_cases s t).left a b) (let c = ws.within.high in let e = ws.ordered
        in record { within = record { low = omega (arith, ints); high = c }; ordered = omega (arith, ints, a, e) })
    go (right a b) = rw ((and_cases s t).right a b) (let c = wt.within.high in let e = wt.ordered
        in record { within = record { low = omega (arith, ints); high = c }; ordered = omega (arith, ints, b, e) })
    go (neither a b) = rw ((and_cases s t).neither a b) (or_word s t ws wt)

pub and_monotone : IsMonotone and_row
and_monotone s t u v ws wt wu wv h k = go (signs s t) (signs u v)
  where
    -- a part of what is not negative is not negative
    stays_up : (x y : Span) → Within x y → pos 0 ≤ℤ y.low → x.low <ℤ pos 0 → ⊥
    stays_up x y i a b = let c = i.low in omega (arith, ints, a, b, c)

    go : Signs s t → Signs u v → Within (and_row s t) (and_row u v)
    go (both a b) (both c d) = rw ((and_cases s t).both a b, (and_cases u v).both c d) (let e = h.high in let f = k.high
        in record { low = omega (arith, ints); high = omega (arith, ints, clamps, e, f) })
    go (both a b) (left c d) = rw ((and_cases s t).both a b, (and_cases u v).left c d) (let e = h.high
        in record { low = omega (arith, ints); high = omega (arith, ints, clamps, e) })
    go (both a b) (right c d) = rw ((and_cases s t).both a b, (and_cases u v).right c d) (let e = k.high
        in record { low = omega (arith, ints); high = omega (arith, ints, clamps, e) })
    go (both a b) (neither c d) = rw ((and_cases s t).both a b, (and_cases u v).neither c d)
        (or_covers u v (int_min s.high t.high) wu wv (inl (let e = h.high in omega (arith, ints, clamps, e))))
    go (left a b) (both c d) = absurd (stays_up t v k d b)
    go (left a b) (left c d) = rw ((and_cases s t).left a b, (and_cases u v).left c d)
        (record { low = omega (arith, ints); high = h.high })
    go (left a b) (right c d) = absurd (stays_up t v k d b)
    go (left a b) (neither c d) = rw ((and_cases s t).left a b, (and_cases u v).neither c d) (or_covers u v s.high wu wv
        (inl h.high))
    go (right a b) (both c d) = absurd (stays_up s u h c a)
    go (right a b) (left c d) = absurd (stays_up s u h c a)
    go (right a b) (right c d) = rw ((and_cases s t).right a b, (and_cases u v).right c d)
        (record { low = omega (arith, ints); high = k.high })
    go (right a b) (neither c d) = rw ((and_cases s t).right a b, (and_cases u v).neither c d) (or_covers u v t.high wu
        wv (inr k.high))
    go (neither a b) (both c d) = absurd (stays_up s u h c a)
    go (neither a b) (left c d) = absurd (stays_up s u h c a)
    go (neither a b) (right c d) = absurd (stays_up t v k d b)
    go (neither a b) (neither c d) = rw ((and_cases s t).neither a b, (and_cases u v).neither c d)
        (or_monotone s t u v ws wt wu wv h k)
