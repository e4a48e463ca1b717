-- Lists and their sums.
use Rattle.std.proofs.Common.{◌≡◌, ℕ, ◌+◌, ◌≤◌, refl, subst, arith, List, [], ◌∷◌, inl, inr}
use Rattle.std.specs.Prelude.{◌⊎◌, sum_by}
use Rattle.std.proofs.lemmas.List.Sums.{sum_by-cons}
use Rattle.cjc_vtable.proofs.Filed.{Has, at_front, behind}

-- no item stands twice
unfoldable pub Apart : {A : Type 0} → List A → Type 0
Apart [] = Unit {0}
Apart (x ∷ xs) = (Has x xs → ⊥) × Apart xs

-- the list without one item
pub record Without {A : Type 0} (f : A → ℕ) (x : A) (xs : List A) : Type 0 where
  pub rest : List A
  pub sum : sum_by f xs ≡ f x + sum_by f rest
  pub has : (y : A) → Has y xs → (y ≡ x) ⊎ Has y rest

without : {A : Type 0} (f : A → ℕ) (x : A) (xs : List A) → Has x xs → Without f x xs
without f x [] h = elim h [ ]
without {A} f x (x' ∷ xs) at_front = record { rest = xs; sum = sum_by-cons f x xs; has = λ y h. one y xs h }
  where
    one : (y : A) (ys : List A) → Has y (x ∷ ys) → (y ≡ x) ⊎ Has y ys
    one y ys at_front = inl refl
    one y ys (behind h) = inr h
without {A} f x (z ∷ xs) (behind h) =
    let r = without f x xs h in
    let head = sum_by-cons f z xs in
    let tail = sum_by-cons f z r.rest in
    let whole = r.sum in
    record { rest = z ∷ r.rest; sum = omega (arith, head, tail, whole); has = λ y g. one y r.rest r.has g }
  where
    one : (y : A) (ys : List A) → ((y : A) → Has y xs → (y ≡ x) ⊎ Has y ys) → Has y (z ∷ xs) → (y ≡ x) ⊎ Has y (z ∷ ys)
    one y ys has at_front = inr at_front
    one y ys has (behind g) = by (has y g)
      where
        by : (y ≡ x) ⊎ Has y ys → (y ≡ x) ⊎ Has y (z ∷ ys)
        by (inl e) = inl e
        by (inr i) = inr (behind i)

-- a list of items of another, none of them twice, has no greater sum
pub sum_within : {A : Type 0} (f : A → ℕ) (xs ys : List A) → Apart xs → ((x : A) → Has x xs → Has x ys)
    → sum_by f xs ≤ sum_by f ys
unfolding Apart
sum_within f [] ys apart has = let z : sum_by f [] ≡ 0 = refl in omega (arith, z)
sum_within {A} f (x ∷ xs) ys apart has =
    let r = without f x ys (has x at_front) in
    let rest = sum_within f xs r.rest apart.1 (λ y h. by y h (r.has y (has y (behind h)))) in
    let head = sum_by-cons f x xs in
    let whole = r.sum in
    omega (arith, rest, head, whole)
  where
    by : (y : A) {zs : List A} → Has y xs → (y ≡ x) ⊎ Has y zs → Has y zs
    by y h (inl e) = absurd (apart.0 (subst (λ z. Has z xs) e h))
    by y h (inr g) = g
