-- Packages and arrays one after the other.
use Rattle.std.proofs.Common.{◌≡◌, ℕ, zero, suc, ◌+◌, ◌<◌, List, [], ◌∷◌, ◌++◌, length, map, take, drop, refl, sym, ap}
use Rattle.std.proofs.Common.{◌∙◌, arith}
use Rattle.std.proofs.lemmas.List.{map-append}
use Rattle.std.specs.Prelude.{Some, None, slice_get}
use Rattle.cjc_script.proofs.BytesGets.{one_taken}

-- what stands first of those that are left
pub left_are : {A : Type 0} (xs : List A) (k : ℕ) (x : A) → Some x ≡ slice_get xs k → drop k xs ≡ x ∷ drop (k + 1) xs
left_are [] k x e = absurd (cc e)
left_are (y ∷ xs) zero x e = let same : x ≡ y = cc e in ap (λ z. z ∷ xs) (sym same)
left_are (y ∷ xs) (suc k) x e =
    let next : suc k + 1 ≡ suc (k + 1) = omega arith in
    left_are xs k x e ∙ ap (λ n. x ∷ drop n (y ∷ xs)) (sym next)

-- nothing is left
pub none_left : {A : Type 0} (xs : List A) (k : ℕ) → None ≡ slice_get xs k → drop k xs ≡ []
none_left [] zero e = refl
none_left [] (suc k) e = refl
none_left (y ∷ xs) zero e = absurd (cc e)
none_left (y ∷ xs) (suc k) e = none_left xs k e

-- one that is there is within
pub is_within : {A : Type 0} (xs : List A) (k : ℕ) (x : A) → Some x ≡ slice_get xs k → k < length xs
is_within [] k x e = absurd (cc e)
is_within (y ∷ xs) zero x e = omega arith
is_within (y ∷ xs) (suc k) x e = let h : k < length xs = is_within xs k x e in omega (arith, h)

-- all are taken
pub all_taken : {A : Type 0} (xs : List A) (k : ℕ) → None ≡ slice_get xs k → take k xs ≡ xs
all_taken [] zero e = refl
all_taken [] (suc k) e = refl
all_taken (y ∷ xs) zero e = absurd (cc e)
all_taken (y ∷ xs) (suc k) e = ap (λ zs. y ∷ zs) (all_taken xs k e)

-- what stands for an item more
pub one_mapped : {A B : Type 0} (f : A → B) (xs : List A) (k : ℕ) (x : A) (ys more : List B) (y : B)
    → Some x ≡ slice_get xs k → ys ≡ map f (take k xs) → y ≡ f x → more ≡ ys ++ y ∷ [] → more ≡ map f (take (k + 1) xs)
one_mapped f xs k x ys more y e before is put =
    put
    ∙ ap (λ zs. zs ++ y ∷ []) before
    ∙ ap (λ z. map f (take k xs) ++ z ∷ []) is
    ∙ sym (map-append f (take k xs) (x ∷ []))
    ∙ ap (λ zs. map f zs) (sym (one_taken xs k x e))

-- what stands for all
pub all_mapped : {A B : Type 0} (f : A → B) (xs : List A) (k : ℕ) (ys : List B) → None ≡ slice_get xs k
    → ys ≡ map f (take k xs) → ys ≡ map f xs
all_mapped f xs k ys e before = before ∙ ap (λ zs. map f zs) (all_taken xs k e)
