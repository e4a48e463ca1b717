-- The place of the first item of a list that passes a test.
use Rattle.std.proofs.Common.{◌≡◌, ℕ, ◌<◌, refl, arith, Bool, List, [], ◌∷◌, length}
use Rattle.std.specs.Prelude.{map, not, position, Some}
use Rattle.std.specs.List.{prefix_len}
use Rattle.std.proofs.lemmas.List.{length-map}

prefix_len-map : {A B : Type 0} (p : B → Bool) (f : A → B) (xs : List A) → prefix_len p (map f xs)
    ≡ prefix_len (λ x. p (f x)) xs
prefix_len-map p f [] = refl
prefix_len-map p f (x ∷ xs) = rw (prefix_len-map p f xs) refl

pub position_of_map : {A B : Type 0} (p : B → Bool) (f : A → B) (xs : List A) → position p (map f xs)
    ≡ position (λ x. p (f x)) xs
position_of_map p f xs = rw (prefix_len-map (λ x. not (p x)) f xs, length-map xs f) refl

pub position_within : {A : Type 0} (p : A → Bool) (xs : List A) (i : ℕ) → position p xs ≡ Some i → i < length xs
position_within p xs i e = grind arith
