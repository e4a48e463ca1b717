-- Where items begin: one by one, in order, and found by a search.
use Rattle.std.proofs.Common.{◌≡◌, ℕ, zero, suc, ◌+◌, ◌<◌, ◌≤◌, ◌==◌, false, List, [], ◌∷◌, ◌++◌, length, get_or, drop}
use Rattle.std.proofs.Common.{refl, sym, ap, ◌∙◌, arith, append_assoc, append-nil, Result, Ok, Err, inl, inr}
use Rattle.std.specs.Prelude.{is_ok, map, ◌||◌}
use Rattle.std.specs.List.{list_any, All}
use Rattle.std.specs.List.Sorted.{IsBinarySearchResult, IsNonDecreasing}
use Rattle.std.specs.Ordering.{nat_cmp}
use Rattle.std.proofs.lemmas.List.{drop_more, drop_all}
use Rattle.std.proofs.lemmas.List.Folds.{list_any_at, list_any_none}
use Rattle.std.proofs.lemmas.List.Sorted.{searched}
use Rattle.std.proofs.lemmas.Bool.{cases_lt}
use Rattle.std.proofs.lemmas.Bool.Decides.{nat_tests}
use Rattle.std.proofs.lemmas.Grind.{get_or_default_zero}
use Rattle.cjc_check_rules.specs.Spots.{Placed, placed, starts, begins}

-- ---- a loop

pub starts_more : {A : Type 0} (size : A → ℕ) (at next i : ℕ) (x : A) (xs : List A) (done total : List ℕ)
    → i < length xs → x ≡ get_or xs i x → next ≡ at + size x
    → done ++ starts size at (drop i xs) ≡ total → (done ++ at ∷ []) ++ starts size next (drop (i + 1) xs) ≡ total
unfolding placed
starts_more {A} size at next i x xs done total lt is n so_far =
    let d : drop i xs ≡ x ∷ drop (i + 1) xs = drop_more xs i x lt ∙ ap (λ (y : A). y ∷ drop (i + 1) xs) (sym is) in
    rw n (append_assoc done (at ∷ []) (starts size (at + size x) (drop (i + 1) xs)) ∙ ap (λ (ys : List A). done
    ++ starts size at ys) (sym d) ∙ so_far)

pub starts_all : {A : Type 0} (size : A → ℕ) (at i : ℕ) (xs : List A) (done total : List ℕ) → length xs ≤ i
    → done ++ starts size at (drop i xs) ≡ total → done ≡ total
unfolding placed
starts_all {A} size at i xs done total le so_far =
    sym (append-nil done) ∙ ap (λ (ys : List A). done ++ starts size at ys) (sym (drop_all i xs le)) ∙ so_far

-- ---- order

pub above : {A : Type 0} (size : A → ℕ) (from : ℕ) (xs : List A) (k d : ℕ) → k < length (starts size from xs)
    → from ≤ get_or (starts size from xs) k d
unfolding placed
above size from [] k d lt = absurd (omega (arith, lt))
above size from (x ∷ xs) zero d lt = omega arith
above size from (x ∷ xs) (suc k) d lt = let h = above size (from + size x) xs k d (omega (arith, lt))
    in omega (arith, h)

pub starts_rise : {A : Type 0} (size : A → ℕ) (from : ℕ) (xs : List A) → IsNonDecreasing (starts size from xs)
unfolding placed
starts_rise size from [] i j d le lt = absurd (omega (arith, lt))
starts_rise size from (x ∷ xs) zero zero d le lt = omega arith
starts_rise size from (x ∷ xs) zero (suc j) d le lt = let h = above size (from + size x) xs j d (omega (arith, lt))
    in omega (arith, h)
starts_rise size from (x ∷ xs) (suc i) zero d le lt = absurd (omega (arith, le))
starts_rise size from (x ∷ xs) (suc i) (suc j) d le lt = starts_rise size (from + size x) xs i j d (omega (arith, le))
    (omega (arith, lt))

-- ---- among them

pub among_placed : {A : Type 0} (items : List (Placed A)) (offset : ℕ)
    → list_any (λ n. n == offset) (map (λ p. p.at) items) ≡ begins items offset
among_placed [] offset = refl
among_placed (p ∷ items) offset = ap (λ b. p.at == offset || b) (among_placed items offset)

never : (numbers : List ℕ) (n i : ℕ) → ((k : ℕ) → k < i → get_or numbers k 0 < n)
    → ((k : ℕ) → i ≤ k → k < length numbers → n < get_or numbers k 0) → All (λ m. (m == n) ≡ false) numbers
never numbers n i below past = λ k d lt. rw (get_or_default_zero numbers k d lt) (
    elim (cases_lt k i) [
      | inl less ↦ (let h = below k less in grind (arith, nat_tests, h))
      | inr more ↦ (let h = past k more lt in grind (arith, nat_tests, h))
    ])

pub found_among : (numbers : List ℕ) (n : ℕ) (r : Result ℕ ℕ) → IsBinarySearchResult (λ y. nat_cmp y n) numbers r
    → IsNonDecreasing numbers → is_ok r ≡ list_any (λ m. m == n) numbers
found_among numbers n (Ok i) is rise =
    let h = searched numbers n (Ok i) is (λ a b le lt. rise a b 0 le lt) in
    let e = h.1 in
    sym (list_any_at (λ m. m == n) numbers i 0 h.0 (grind (arith, nat_tests, e)))
found_among numbers n (Err i) is rise =
    let h = searched numbers n (Err i) is (λ a b le lt. rise a b 0 le lt) in
    sym (list_any_none (λ m. m == n) numbers (never numbers n i h.1 h.2))
