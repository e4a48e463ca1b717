-- Lists whose first items are made by one function and the rest by another.
use Rattle.std.proofs.Common.{◌≡◌, ℕ, zero, suc, ◌+◌, ◌≤◌, arith, refl, sym, ap, ◌∙◌, List, [], ◌∷◌, length}
use Rattle.std.specs.Prelude.{map, slice_get, slice_set, Some}

-- so many of the first
pub mixed : {A B : Type 0} → (f g : A → B) → ℕ → List A → List B
mixed f g zero xs = map g xs
mixed f g (suc k) [] = []
mixed f g (suc k) (x ∷ xs) = f x ∷ mixed f g k xs

module _ {A B : Type 0} (f g : A → B) where
  pub none_mixed : (xs : List A) → mixed f g 0 xs ≡ map g xs
  unfolding mixed
  none_mixed xs = refl

  pub all_mixed : (k : ℕ) (xs : List A) → length xs ≤ k → mixed f g k xs ≡ map f xs
  unfolding mixed
  all_mixed zero [] le = refl
  all_mixed zero (x ∷ xs) le = absurd (omega (arith, le))
  all_mixed (suc k) [] le = refl
  all_mixed (suc k) (x ∷ xs) le = ap (λ (ys : List B). f x ∷ ys) (all_mixed k xs (omega (arith, le)))

  pub length_mixed : (k : ℕ) (xs : List A) → length (mixed f g k xs) ≡ length xs
  unfolding mixed
  length_mixed zero [] = refl
  length_mixed zero (x ∷ xs) = ap suc (length_mixed zero xs)
  length_mixed (suc k) [] = refl
  length_mixed (suc k) (x ∷ xs) = ap suc (length_mixed k xs)

  set_next : (k : ℕ) (xs : List A) (x : A) → slice_get xs k ≡ Some x → slice_set (mixed f g k xs) k (f x)
      ≡ mixed f g (suc k) xs
  unfolding mixed
  set_next zero [] x e = absurd cc
  set_next zero (y ∷ xs) x e = let same : y ≡ x = cc in ap (λ z. f z ∷ map g xs) (sym same)
  set_next (suc k) [] x e = absurd cc
  set_next (suc k) (y ∷ xs) x e = ap (λ (ys : List B). f y ∷ ys) (set_next k xs x e)

  same_next : (k : ℕ) (xs : List A) (x : A) → slice_get xs k ≡ Some x → g x ≡ f x → mixed f g k xs
      ≡ mixed f g (suc k) xs
  unfolding mixed
  same_next zero [] x e h = absurd cc
  same_next zero (y ∷ xs) x e h = let same : y ≡ x = cc in
      ap (λ (z : B). z ∷ map g xs) (ap g same ∙ h ∙ ap f (sym same))
  same_next (suc k) [] x e h = absurd cc
  same_next (suc k) (y ∷ xs) x e h = ap (λ (ys : List B). f y ∷ ys) (same_next k xs x e h)

  one_more : (k : ℕ) → suc k ≡ k + 1
  one_more k = omega arith

  -- one more is put
  pub put_mixed : (k : ℕ) (xs : List A) (x : A) → slice_get xs k ≡ Some x → slice_set (mixed f g k xs) k (f x)
      ≡ mixed f g (k + 1) xs
  put_mixed k xs x e = set_next k xs x e ∙ ap (λ n. mixed f g n xs) (one_more k)

  -- one more is as it is
  pub keep_mixed : (k : ℕ) (xs : List A) (x : A) → slice_get xs k ≡ Some x → g x ≡ f x → mixed f g k xs
      ≡ mixed f g (k + 1) xs
  keep_mixed k xs x e h = same_next k xs x e h ∙ ap (λ n. mixed f g n xs) (one_more k)
