-- What lists have at their places.
use Rattle.std.proofs.Common.{◌≡◌, ℕ, zero, suc, ◌+◌, Bool, true, false, List, [], ◌∷◌, take, refl, ap, ◌∙◌}
use Rattle.std.proofs.Common.{add-one, Some, None}
use Rattle.std.specs.Prelude.{◌||◌, slice_get}
use Rattle.std.specs.List.{list_any}

-- ---- tests

test_more : {A : Type 0} (p : A → Bool) (xs : List A) (k : ℕ) (x : A) → slice_get xs k ≡ Some x → p x ≡ false
    → list_any p (take k xs) ≡ false → list_any p (take (suc k) xs) ≡ false
test_more p [] k x e isnt so_far = cc
test_more p (y ∷ ys) zero x e isnt so_far = let same : y ≡ x = cc in ap (λ b. b || false) (ap p same ∙ isnt)
test_more p (y ∷ ys) (suc k) x e isnt so_far = by (p y) so_far (test_more p ys k x e isnt)
  where
    by : (b : Bool) → (b || list_any p (take k ys)) ≡ false → (list_any p (take k ys) ≡ false
        → list_any p (take (suc k) ys) ≡ false) → (b || list_any p (take (suc k) ys)) ≡ false
    by true f rest = cc
    by false f rest = rest f

-- one more that does not pass
pub none_more : {A : Type 0} (p : A → Bool) (xs : List A) (k : ℕ) (x : A) → slice_get xs k ≡ Some x → p x ≡ false
    → list_any p (take k xs) ≡ false → list_any p (take (k + 1) xs) ≡ false
none_more p xs k x e isnt so_far = ap (λ n. list_any p (take n xs)) (add-one k) ∙ test_more p xs k x e isnt so_far

-- none passes
pub none_passes : {A : Type 0} (p : A → Bool) (xs : List A) (k : ℕ) → slice_get xs k ≡ None → list_any p (take k xs)
    ≡ false → list_any p xs ≡ false
none_passes p [] k e so_far = refl
none_passes p (y ∷ ys) zero e so_far = cc
none_passes p (y ∷ ys) (suc k) e so_far = by (p y) so_far (none_passes p ys k e)
  where
    by : (b : Bool) → (b || list_any p (take k ys)) ≡ false → (list_any p (take k ys) ≡ false → list_any p ys ≡ false)
        → (b || list_any p ys) ≡ false
    by true f rest = cc
    by false f rest = rest f
