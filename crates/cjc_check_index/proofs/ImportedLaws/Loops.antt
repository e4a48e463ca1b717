-- Loops that put down what a function gives of each item; and tests.
use Rattle.std.proofs.Common.{◌≡◌, ℕ, suc, ◌+◌, ◌<◌, ◌≤◌, Bool, true, false, List, [], ◌∷◌, ◌++◌, length, get_or, take}
use Rattle.std.proofs.Common.{map, refl, sym, ap, ◌∙◌, arith}
use Rattle.std.specs.Prelude.{◌||◌}
use Rattle.std.proofs.lemmas.List.{map-append, take_more, take_all}
use Rattle.cjc_check_rules.proofs.BytesBools.{bool_either}

pub same_when : (a b : Bool) → (a ≡ true → b ≡ true) → (b ≡ true → a ≡ true) → a ≡ b
same_when true b p q = sym (p refl)
same_when false b p q = bool_either b (λ t. q t ∙ sym t) (λ t. sym t)

pub or_false : (b : Bool) → (b || false) ≡ b
or_false true = refl
or_false false = refl

pub map_more : {A B : Type 0} (f : A → B) (i : ℕ) (x : A) (y : B) (xs : List A) (done next : List B) → i < length xs
    → x ≡ get_or xs i x → y ≡ f x → next ≡ done ++ y ∷ []
    → done ≡ map f (take i xs) → next ≡ map f (take (i + 1) xs)
map_more {A} {B} f i x y xs done next lt is e n so_far =
    n ∙ ap (λ (d : List B). d ++ y ∷ []) so_far ∙ ap (λ (z : B). map f (take i xs) ++ z ∷ []) (e ∙ ap f is)
    ∙ sym (map-append f (take i xs) (get_or xs i x ∷ [])) ∙ sym (ap (λ (zs : List A). map f zs) (take_more xs i x lt))

pub map_all : {A B : Type 0} (f : A → B) (i : ℕ) (xs : List A) (done : List B) → length xs ≤ i
    → done ≡ map f (take i xs) → done ≡ map f xs
map_all {A} f i xs done le so_far = so_far ∙ ap (λ (zs : List A). map f zs) (take_all i xs le)

-- a list is that of a function's values where each item is
pub map_is : {A B : Type 0} (f : A → B) (e : B) (ys : List B) (xs : List A) → length ys ≡ length xs
    → ((i : ℕ) (d : A) → i < length xs → get_or ys i e ≡ f (get_or xs i d)) → ys ≡ map f xs
map_is f e [] [] l h = refl
map_is f e [] (x ∷ xs) l h = absurd (omega (arith, l))
map_is f e (y ∷ ys) [] l h = absurd (omega (arith, l))
map_is {A} {B} f e (y ∷ ys) (x ∷ xs) l h =
    let first : y ≡ f x = h 0 x (omega arith) in
    let rest : ys ≡ map f xs = map_is f e ys xs (omega (arith, l)) (λ i d lt. h (suc i) d (omega (arith, lt))) in
    ap (λ (z : B). z ∷ ys) first ∙ ap (λ (zs : List B). f x ∷ zs) rest
