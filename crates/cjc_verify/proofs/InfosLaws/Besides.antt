-- Items beside others that a function gives, and two lists of items one behind the other.
use Rattle.std.proofs.Common.{◌≡◌, ℕ, zero, suc, ◌+◌, List, [], ◌∷◌, ◌++◌, length, drop, map, refl, sym, ap, ◌∙◌}
use Rattle.std.proofs.Common.{append_assoc, arith}
use Rattle.std.specs.Prelude.{sum_by}
use Rattle.std.proofs.lemmas.List.Sums.{sum_by-cons}
use Rattle.cjc_check_rules.specs.declared.spot.ComponentPlace.{ComponentPlace}
use Rattle.cjc_check_rules.specs.Spots.{beside}

-- what a function gives of the others stands in their stead
pub others_by : {A B C : Type 0} (size : A → ℕ) (one : ℕ → A → B → List ComponentPlace)
    (other : ℕ → A → C → List ComponentPlace) (f : B → C)
    → ((at : ℕ) (x : A) (y : B) → one at x y ≡ other at x (f y)) → (at : ℕ) (xs : List A) (ys : List B)
    → beside size one at xs ys ≡ beside size other at xs (map f ys)
unfolding beside
others_by size one other f e at [] [] = refl
others_by size one other f e at [] (y ∷ ys) = refl
others_by size one other f e at (x ∷ xs) [] = refl
others_by size one other f e at (x ∷ xs) (y ∷ ys) =
    ap (λ (s : List ComponentPlace). s ++ beside size one (at + size x) xs ys) (e at x y)
    ∙ ap (λ (s : List ComponentPlace). other at x (f y) ++ s) (others_by size one other f e (at + size x) xs ys)

-- what a function gives of the items stands in their stead
pub items_by : {A B C : Type 0} (size : A → ℕ) (size_of : C → ℕ) (one : ℕ → C → B → List ComponentPlace)
    (other : ℕ → A → B → List ComponentPlace) (f : A → C) → ((x : A) → size_of (f x) ≡ size x)
    → ((at : ℕ) (x : A) (y : B) → one at (f x) y ≡ other at x y) → (at : ℕ) (xs : List A) (ys : List B)
    → beside size_of one at (map f xs) ys ≡ beside size other at xs ys
unfolding beside
items_by size size_of one other f s e at [] [] = refl
items_by size size_of one other f s e at [] (y ∷ ys) = refl
items_by size size_of one other f s e at (x ∷ xs) [] = refl
items_by size size_of one other f s e at (x ∷ xs) (y ∷ ys) =
    ap (λ (q : List ComponentPlace). q ++ beside size_of one (at + size_of (f x)) (map f xs) ys) (e at x y)
    ∙ ap (λ (n : ℕ). other at x y ++ beside size_of one (at + n) (map f xs) ys) (s x)
    ∙ ap (λ (q : List ComponentPlace). other at x y ++ q) (items_by size size_of one other f s e (at + size x) xs ys)

none_beside : {A B : Type 0} (size : A → ℕ) (broken : ℕ → A → B → List ComponentPlace) (at : ℕ) (xs : List A)
    → beside size broken at xs [] ≡ []
unfolding beside
none_beside size broken at [] = refl
none_beside size broken at (x ∷ xs) = refl

-- nothing is broken in any
pub nothing : {A B : Type 0} (size : A → ℕ) (at : ℕ) (xs : List A) (ys : List B) → beside size (λ k x y. []) at xs ys
    ≡ []
unfolding beside
nothing size at [] [] = refl
nothing size at [] (y ∷ ys) = refl
nothing size at (x ∷ xs) [] = refl
nothing size at (x ∷ xs) (y ∷ ys) = nothing size (at + size x) xs ys

-- two lists, one behind the other
pub behind : {A B : Type 0} (size : A → ℕ) (broken : ℕ → A → B → List ComponentPlace) (at : ℕ) (xs zs : List A)
    (ys : List B)
    → beside size broken at (xs ++ zs) ys ≡ beside size broken at xs ys
    ++ beside size broken (at + sum_by size xs) zs (drop (length xs) ys)
unfolding beside
behind size broken at [] zs [] = ap (λ (n : ℕ). beside size broken n zs []) (let z : at ≡ at + 0 = omega arith in z)
behind size broken at [] zs (y ∷ ys) =
    ap (λ (n : ℕ). beside size broken n zs (y ∷ ys)) (let z : at ≡ at + 0 = omega arith in z)
behind {A} {B} size broken at (x ∷ xs) zs [] =
    sym (none_beside size broken (at + sum_by size (x ∷ xs)) zs)
behind size broken at (x ∷ xs) zs (y ∷ ys) =
    let front = beside size broken (at + size x) xs ys in
    let s = sum_by-cons size x xs in
    let next : at + size x + sum_by size xs ≡ at + sum_by size (x ∷ xs) = omega (arith, s) in
    ap (λ (q : List ComponentPlace). broken at x y ++ q) (behind size broken (at + size x) xs zs ys)
    ∙ sym (append_assoc (broken at x y) front (beside size broken (at + size x + sum_by size xs) zs
    (drop (length xs) ys)))
    ∙ ap (λ (n : ℕ). (broken at x y ++ front) ++ beside size broken n zs (drop (length xs) ys)) next

-- what is dropped of what a function gives
pub dropped : {A B : Type 0} (f : A → B) (n : ℕ) (xs : List A) → drop n (map f xs) ≡ map f (drop n xs)
dropped f zero xs = refl
dropped f (suc n) [] = refl
dropped f (suc n) (x ∷ xs) = dropped f n xs
