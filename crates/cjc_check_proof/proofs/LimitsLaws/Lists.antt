-- Facts of all items of a list, and how many bytes many items have.
use Rattle.std.proofs.Common.{◌≡◌, ℕ, zero, suc, ◌*◌, ◌≤◌, refl, ap, List, [], ◌∷◌, map, length, length-append}
use Rattle.std.proofs.Common.{arith, Some}
use Rattle.std.specs.Prelude.{slice_get, sum_by, flat_map}
use Rattle.std.specs.List.{AllByRecursion}
use Rattle.std.proofs.lemmas.List.Sums.{sum_by-cons}

pub all_mapped : {A B : Type 0} (P : B → Type 0) (f : A → B) (xs : List A) → ((k : ℕ) (x : A) → slice_get xs k ≡ Some x
    → P (f x)) → AllByRecursion P (map f xs)
all_mapped P f [] h = tt
all_mapped P f (x ∷ xs) h = (h 0 x refl, all_mapped P f xs (λ k y at. h (suc k) y at))

pub all_of : {A : Type 0} (P : A → Type 0) (xs : List A) → ((k : ℕ) (x : A) → slice_get xs k ≡ Some x → P x)
    → AllByRecursion P xs
all_of P [] h = tt
all_of P (x ∷ xs) h = (h 0 x refl, all_of P xs (λ k y at. h (suc k) y at))

-- items that each have some bytes
pub many : {A : Type 0} (f : A → List ℕ) (n : ℕ) → ((x : A) → n ≤ length (f x)) → (xs : List A)
    → n * length xs ≤ length (flat_map f xs)
many f n each [] = omega arith
many f n each (x ∷ xs) =
    let e = each x in
    let rest = many f n each xs in
    let l = length-append (f x) (flat_map f xs) in
    omega (arith, e, rest, l)

-- one of them has no more than all
pub one_of_all : {A : Type 0} (f : A → List ℕ) (xs : List A) (k : ℕ) (x : A) → slice_get xs k ≡ Some x
    → length (f x) ≤ length (flat_map f xs)
one_of_all f [] k x e = cc
one_of_all f (y ∷ xs) zero x e =
    let same : length (f y) ≡ length (f x) = (let s : y ≡ x = cc in ap (λ z. length (f z)) s) in
    let l = length-append (f y) (flat_map f xs) in
    omega (arith, same, l)
one_of_all f (y ∷ xs) (suc k) x e =
    let rest = one_of_all f xs k x e in
    let l = length-append (f y) (flat_map f xs) in
    omega (arith, rest, l)

-- so it is with numbers
pub one_of_sum : {A : Type 0} (f : A → ℕ) (xs : List A) (k : ℕ) (x : A) → slice_get xs k ≡ Some x → f x ≤ sum_by f xs
one_of_sum f [] k x e = cc
one_of_sum f (y ∷ xs) zero x e =
    let same : f y ≡ f x = (let s : y ≡ x = cc in ap f s) in
    let l = sum_by-cons f y xs in
    omega (arith, same, l)
one_of_sum f (y ∷ xs) (suc k) x e =
    let rest = one_of_sum f xs k x e in
    let l = sum_by-cons f y xs in
    omega (arith, rest, l)
