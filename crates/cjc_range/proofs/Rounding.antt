-- The nearest landmarks.
use Rattle.std.proofs.Common.{◌≡◌, zero, suc, ◌<◌, ℤ, pos, negsuc, ◌≤ℤ◌, ◌⊎◌, Bool, true, false, cond, ◌&&◌, ◌-◌}
use Rattle.std.proofs.Common.{int_le, List, [], ◌∷◌, length, reverse, Contains, Some, unwrap_or, refl, sym, ◌∙◌, ap}
use Rattle.std.proofs.Common.{subst, inl, inr, arith}
use Rattle.std.specs.List.{list_all, find}
use Rattle.std.proofs.lemmas.Int.{ints}
use Rattle.std.proofs.lemmas.List.{length-reverse, reverse-reverse, get_or-reverse}
use Rattle.cjc_range.specs.Span.{Span, span, Within, IsWord}
use Rattle.cjc_range.specs.Landmarks.{landmarks, landmark_above, landmark_below, round_row, IsLandmark, IsRounded}
use Rattle.cjc_range.specs.Laws.{IsMonotoneAlone, GivesWordsAlone}

-- the first of the numbers that is not below z, else the greatest number of 32 bits
abbrev first_above : List ℤ → ℤ → ℤ
first_above [] z = pos 2147483647
first_above (m ∷ ms) z = cond (int_le z m) m (first_above ms z)

-- the first of the numbers that is not above z, else the least number of 32 bits
abbrev first_below : List ℤ → ℤ → ℤ
first_below [] z = negsuc 2147483647
first_below (m ∷ ms) z = cond (int_le m z) m (first_below ms z)

found_above : (ms : List ℤ) (z : ℤ) → unwrap_or (find (λ m. int_le z m) ms) (pos 2147483647) ≡ first_above ms z
found_above [] z = refl
found_above (m ∷ ms) z = go (int_le z m) (found_above ms z)
  where
    go : (b : Bool) → unwrap_or (find (λ m. int_le z m) ms) (pos 2147483647) ≡ first_above ms z
        → unwrap_or (cond b (Some m) (find (λ m. int_le z m) ms)) (pos 2147483647) ≡ cond b m (first_above ms z)
    go true i = refl
    go false i = i

found_below : (ms : List ℤ) (z : ℤ) → unwrap_or (find (λ m. int_le m z) ms) (negsuc 2147483647) ≡ first_below ms z
found_below [] z = refl
found_below (m ∷ ms) z = go (int_le m z) (found_below ms z)
  where
    go : (b : Bool) → unwrap_or (find (λ m. int_le m z) ms) (negsuc 2147483647) ≡ first_below ms z
        → unwrap_or (cond b (Some m) (find (λ m. int_le m z) ms)) (negsuc 2147483647) ≡ cond b m (first_below ms z)
    go true i = refl
    go false i = i

-- ---- upwards

above_outwards : (ms : List ℤ) (z : ℤ) → z ≤ℤ pos 2147483647 → z ≤ℤ first_above ms z
above_outwards [] z h = h
above_outwards (m ∷ ms) z h = go (int_le z m) refl (above_outwards ms z h)
  where
    go : (b : Bool) → int_le z m ≡ b → z ≤ℤ first_above ms z → z ≤ℤ cond b m (first_above ms z)
    go true e i = grind (arith, ints, e)
    go false e i = i

above_up : (ms : List ℤ) (y z : ℤ) → y ≤ℤ z → z ≤ℤ pos 2147483647 → first_above ms y ≤ℤ first_above ms z
above_up [] y z h k = omega (arith, ints)
above_up (m ∷ ms) y z h k = go (int_le y m) (int_le z m) refl refl (above_up ms y z h k) (above_outwards ms z k)
  where
    go : (b c : Bool) → int_le y m ≡ b → int_le z m ≡ c → first_above ms y ≤ℤ first_above ms z → z ≤ℤ first_above ms z
        → cond b m (first_above ms y) ≤ℤ cond c m (first_above ms z)
    go true true e f i j = omega (arith, ints)
    go true false e f i j = grind (arith, ints, f, j)
    go false true e f i j = absurd (grind (arith, ints, e, f, h))
    go false false e f i j = i

above_again : (ms : List ℤ) (z : ℤ) → z ≤ℤ pos 2147483647 → first_above ms (first_above ms z) ≡ first_above ms z
above_again [] z h = refl
above_again (m ∷ ms) z h = go (int_le z m) refl (above_again ms z h) (above_outwards ms z h)
  where
    stays : int_le m m ≡ true
    stays = grind (arith, ints)

    later : int_le z m ≡ false → z ≤ℤ first_above ms z → int_le (first_above ms z) m ≡ false
    later e j = grind (arith, ints, e, j)

    go : (b : Bool) → int_le z m ≡ b → first_above ms (first_above ms z) ≡ first_above ms z → z ≤ℤ first_above ms z
        → first_above (m ∷ ms) (cond b m (first_above ms z)) ≡ cond b m (first_above ms z)
    go true e i j = ap (λ (b : Bool). cond b m (first_above ms m)) stays
    go false e i j = ap (λ (b : Bool). cond b m (first_above ms (first_above ms z))) (later e j) ∙ i

-- a list whose numbers ascend, and one whose numbers descend
abbrev ascends : List ℤ → Bool
ascends [] = true
ascends (m ∷ ms) = list_all (λ n. int_le m n) ms && ascends ms

abbrev descends : List ℤ → Bool
descends [] = true
descends (m ∷ ms) = list_all (λ n. int_le n m) ms && descends ms

and_parts : (a b : Bool) → (a && b) ≡ true → (a ≡ true) × (b ≡ true)
and_parts true true e = (refl, refl)
and_parts true false e = absurd (cc)
and_parts false b e = absurd (cc)

-- what a test says of all it says of each
all_at : (p : ℤ → Bool) (ms : List ℤ) (m : ℤ) → list_all p ms ≡ true → Contains ms m → p m ≡ true
all_at p [] m e (k, lt, is) = absurd (omega arith)
all_at p (n ∷ ms) m e (zero, lt, is) = subst (λ (z : ℤ). p z ≡ true) is (and_parts (p n) (list_all p ms) e).0
all_at p (n ∷ ms) m e (suc k, lt, is) = all_at p ms m (and_parts (p n) (list_all p ms) e).1 (k, omega arith, is)

-- one of a list is its first or one of the rest
first_or : (n : ℤ) (ms : List ℤ) (m : ℤ) → Contains (n ∷ ms) m → (n ≡ m) ⊎ Contains ms m
first_or n ms m (zero, lt, is) = inl is
first_or n ms m (suc k, lt, is) = inr (k, omega arith, is)

one_more : (n : ℤ) (ms : List ℤ) (m : ℤ) → Contains ms m → Contains (n ∷ ms) m
one_more n ms m (k, lt, is) = (suc k, omega arith, is)

above_nearest : (ms : List ℤ) (z m : ℤ) → ascends ms ≡ true → Contains ms m → z ≤ℤ m → first_above ms z ≤ℤ m
above_nearest [] z m e (k, lt, is) h = absurd (omega arith)
above_nearest (n ∷ ms) z m e has h = go (int_le z n) refl (first_or n ms m has) (λ later. above_nearest ms z m parts.1
    later h)
  where
    parts : (list_all (λ x. int_le n x) ms ≡ true) × (ascends ms ≡ true)
    parts = and_parts (list_all (λ x. int_le n x) ms) (ascends ms) e

    go : (b : Bool) → int_le z n ≡ b → (n ≡ m) ⊎ Contains ms m → (Contains ms m → first_above ms z ≤ℤ m)
        → cond b n (first_above ms z) ≤ℤ m
    go true t (inl is) next = omega (arith, ints, is)
    go true t (inr later) next = let u = all_at (λ x. int_le n x) ms m parts.0 later in grind (arith, ints, u)
    go false t (inl is) next = absurd (grind (arith, ints, t, is, h))
    go false t (inr later) next = next later

above_one : (ms : List ℤ) (z : ℤ) → Contains ms (first_above ms z) ⊎ (first_above ms z ≡ pos 2147483647)
above_one [] z = inr refl
above_one (m ∷ ms) z = go (int_le z m) (above_one ms z)
  where
    go : (b : Bool) → Contains ms (first_above ms z) ⊎ (first_above ms z ≡ pos 2147483647)
        → Contains (m ∷ ms) (cond b m (first_above ms z)) ⊎ (cond b m (first_above ms z) ≡ pos 2147483647)
    go true i = inl (zero, omega arith, refl)
    go false (inl is) = inl (one_more m ms _ is)
    go false (inr is) = inr is

above_word : (ms : List ℤ) (z : ℤ) → list_all (λ m. int_le m (pos 2147483647)) ms ≡ true
    → first_above ms z ≤ℤ pos 2147483647
above_word [] z e = omega (arith, ints)
above_word (m ∷ ms) z e =
    go (int_le z m) (above_word ms z (and_parts (int_le m (pos 2147483647)) (list_all (λ m. int_le m (pos 2147483647))
    ms) e).1)
  where
    go : (b : Bool) → first_above ms z ≤ℤ pos 2147483647 → cond b m (first_above ms z) ≤ℤ pos 2147483647
    go true i = let u = (and_parts (int_le m (pos 2147483647)) (list_all (λ m. int_le m (pos 2147483647)) ms) e).0
        in grind (arith, ints, u)
    go false i = i

-- ---- downwards

below_outwards : (ms : List ℤ) (z : ℤ) → negsuc 2147483647 ≤ℤ z → first_below ms z ≤ℤ z
below_outwards [] z h = h
below_outwards (m ∷ ms) z h = go (int_le m z) refl (below_outwards ms z h)
  where
    go : (b : Bool) → int_le m z ≡ b → first_below ms z ≤ℤ z → cond b m (first_below ms z) ≤ℤ z
    go true e i = grind (arith, ints, e)
    go false e i = i

below_up : (ms : List ℤ) (y z : ℤ) → y ≤ℤ z → negsuc 2147483647 ≤ℤ y → first_below ms y ≤ℤ first_below ms z
below_up [] y z h k = omega (arith, ints)
below_up (m ∷ ms) y z h k = go (int_le m y) (int_le m z) refl refl (below_up ms y z h k) (below_outwards ms y k)
  where
    go : (b c : Bool) → int_le m y ≡ b → int_le m z ≡ c → first_below ms y ≤ℤ first_below ms z → first_below ms y ≤ℤ y
        → cond b m (first_below ms y) ≤ℤ cond c m (first_below ms z)
    go true true e f i j = omega (arith, ints)
    go true false e f i j = absurd (grind (arith, ints, e, f, h))
    go false true e f i j = grind (arith, ints, e, j)
    go false false e f i j = i

below_again : (ms : List ℤ) (z : ℤ) → negsuc 2147483647 ≤ℤ z → first_below ms (first_below ms z) ≡ first_below ms z
below_again [] z h = refl
below_again (m ∷ ms) z h = go (int_le m z) refl (below_again ms z h) (below_outwards ms z h)
  where
    stays : int_le m m ≡ true
    stays = grind (arith, ints)

    later : int_le m z ≡ false → first_below ms z ≤ℤ z → int_le m (first_below ms z) ≡ false
    later e j = grind (arith, ints, e, j)

    go : (b : Bool) → int_le m z ≡ b → first_below ms (first_below ms z) ≡ first_below ms z → first_below ms z ≤ℤ z
        → first_below (m ∷ ms) (cond b m (first_below ms z)) ≡ cond b m (first_below ms z)
    go true e i j = ap (λ (b : Bool). cond b m (first_below ms m)) stays
    go false e i j = ap (λ (b : Bool). cond b m (first_below ms (first_below ms z))) (later e j) ∙ i

below_nearest : (ms : List ℤ) (z m : ℤ) → descends ms ≡ true → Contains ms m → m ≤ℤ z → m ≤ℤ first_below ms z
below_nearest [] z m e (k, lt, is) h = absurd (omega arith)
below_nearest (n ∷ ms) z m e has h = go (int_le n z) refl (first_or n ms m has) (λ later. below_nearest ms z m parts.1
    later h)
  where
    parts : (list_all (λ x. int_le x n) ms ≡ true) × (descends ms ≡ true)
    parts = and_parts (list_all (λ x. int_le x n) ms) (descends ms) e

    go : (b : Bool) → int_le n z ≡ b → (n ≡ m) ⊎ Contains ms m → (Contains ms m → m ≤ℤ first_below ms z)
        → m ≤ℤ cond b n (first_below ms z)
    go true t (inl is) next = omega (arith, ints, is)
    go true t (inr later) next = let u = all_at (λ x. int_le x n) ms m parts.0 later in grind (arith, ints, u)
    go false t (inl is) next = absurd (grind (arith, ints, t, is, h))
    go false t (inr later) next = next later

below_one : (ms : List ℤ) (z : ℤ) → Contains ms (first_below ms z) ⊎ (first_below ms z ≡ negsuc 2147483647)
below_one [] z = inr refl
below_one (m ∷ ms) z = go (int_le m z) (below_one ms z)
  where
    go : (b : Bool) → Contains ms (first_below ms z) ⊎ (first_below ms z ≡ negsuc 2147483647)
        → Contains (m ∷ ms) (cond b m (first_below ms z)) ⊎ (cond b m (first_below ms z) ≡ negsuc 2147483647)
    go true i = inl (zero, omega arith, refl)
    go false (inl is) = inl (one_more m ms _ is)
    go false (inr is) = inr is

below_word : (ms : List ℤ) (z : ℤ) → list_all (λ m. int_le (negsuc 2147483647) m) ms ≡ true
    → negsuc 2147483647 ≤ℤ first_below ms z
below_word [] z e = omega (arith, ints)
below_word (m ∷ ms) z e =
    go (int_le m z) (below_word ms z (and_parts (int_le (negsuc 2147483647) m)
    (list_all (λ m. int_le (negsuc 2147483647) m) ms) e).1)
  where
    go : (b : Bool) → negsuc 2147483647 ≤ℤ first_below ms z → negsuc 2147483647 ≤ℤ cond b m (first_below ms z)
    go true i = let u = (and_parts (int_le (negsuc 2147483647) m) (list_all (λ m. int_le (negsuc 2147483647) m) ms) e).0
        in grind (arith, ints, u)
    go false i = i

-- ---- the landmarks

reversed_has : (ms : List ℤ) (m : ℤ) → Contains (reverse ms) m → Contains ms m
reversed_has ms m (k, lt, is) =
    let e = length-reverse ms in
    let inside : k < length ms = omega (arith, lt, e) in
    (length ms - 1 - k, omega (arith, inside), sym (get_or-reverse ms k m inside) ∙ is)

has_reversed : (ms : List ℤ) (m : ℤ) → Contains ms m → Contains (reverse ms) m
has_reversed ms m has = reversed_has (reverse ms) m (subst (λ (xs : List ℤ). Contains xs m) (sym (reverse-reverse ms))
    has)

top_is : IsLandmark (pos 2147483647)
top_is = (11, omega arith, refl)

bottom_is : IsLandmark (negsuc 2147483647)
bottom_is = (0, omega arith, refl)

above_is : (z : ℤ) → landmark_above z ≡ first_above landmarks z
unfolding landmark_above
above_is z = found_above landmarks z

below_is : (z : ℤ) → landmark_below z ≡ first_below (reverse landmarks) z
unfolding landmark_below
below_is z = found_below (reverse landmarks) z

above_landmark : (z : ℤ) → IsLandmark (landmark_above z)
above_landmark z = subst IsLandmark (sym (above_is z)) (elim (above_one landmarks z) [
  | inl is ↦ is
  | inr is ↦ subst IsLandmark (sym is) top_is
])

below_landmark : (z : ℤ) → IsLandmark (landmark_below z)
below_landmark z = subst IsLandmark (sym (below_is z)) (elim (below_one (reverse landmarks) z) [
  | inl is ↦ reversed_has landmarks _ is
  | inr is ↦ subst IsLandmark (sym is) bottom_is
])

-- what rounds a span of 32 bits
pub round_is : (s : Span) → IsWord s → IsRounded s (round_row s)
round_is s w = record {
  low = below_landmark s.low;
  high = above_landmark s.high;
  low_outwards = subst (λ (z : ℤ). z ≤ℤ s.low) (sym (below_is s.low)) (below_outwards (reverse landmarks) s.low
      w.within.low);
  high_outwards = subst (λ (z : ℤ). s.high ≤ℤ z) (sym (above_is s.high)) (above_outwards landmarks s.high
      w.within.high);
  low_nearest = λ m is h. subst (λ (z : ℤ). m ≤ℤ z) (sym (below_is s.low)) (below_nearest (reverse landmarks) s.low m
      refl (has_reversed landmarks m is) h);
  high_nearest = λ m is h. subst (λ (z : ℤ). z ≤ℤ m) (sym (above_is s.high)) (above_nearest landmarks s.high m refl is
      h);
}

pub round_within : (s : Span) → IsWord s → Within s (round_row s)
round_within s w = let is = round_is s w in record { low = is.low_outwards; high = is.high_outwards }

pub round_ordered : (s : Span) → IsWord s → landmark_below s.low ≤ℤ landmark_above s.high
round_ordered s w = let is = round_within s w in let a = is.low in let b = is.high in let c = w.ordered
    in omega (arith, ints, a, b, c)

pub round_monotone : IsMonotoneAlone round_row
round_monotone s t ws wt h =
    let low = below_up (reverse landmarks) t.low s.low h.low wt.within.low in
    let high = above_up landmarks s.high t.high h.high wt.within.high in
    let a = below_is s.low in let b = below_is t.low in let c = above_is s.high in let d = above_is t.high in
    record { low = omega (arith, ints, low, a, b); high = omega (arith, ints, high, c, d) }

pub round_word : GivesWordsAlone round_row
round_word s w =
    let a = below_is s.low in let b = above_is s.high in
    let c = below_word (reverse landmarks) s.low refl in let d = above_word landmarks s.high refl in
    record {
      within = record { low = omega (arith, ints, a, c); high = omega (arith, ints, b, d) };
      ordered = round_ordered s w;
    }

pub spans_same : (a b c d : ℤ) → a ≡ b → c ≡ d → span a c ≡ span b d
spans_same a b c d e f = cc

-- what is rounded stays as it is
pub round_again : (s : Span) → IsWord s → round_row (round_row s) ≡ round_row s
round_again s w =
    let low = ap landmark_below (below_is s.low) ∙ below_is (first_below (reverse landmarks) s.low)
    ∙ below_again (reverse landmarks) s.low w.within.low ∙ sym (below_is s.low) in
    let high = ap landmark_above (above_is s.high) ∙ above_is (first_above landmarks s.high)
    ∙ above_again landmarks s.high w.within.high ∙ sym (above_is s.high) in
    spans_same _ _ _ _ low high
