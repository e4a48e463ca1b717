-- Rows that are made by going over a list.
use Rattle.std.proofs.Common.{◌≡◌, ℕ, ◌+◌, ◌<◌, ◌≤◌, refl, sym, ap, ◌∙◌, List, [], ◌∷◌, ◌++◌, length, take, get_or}
use Rattle.std.specs.Prelude.{map, Option, Some, None, option_map}
use Rattle.std.proofs.lemmas.List.{map-append, take_all, take_more}

values : {A : Type 0} → List (Option A) → List A
values [] = []
values (None ∷ os) = values os
values (Some x ∷ os) = x ∷ values os

values-map : {A : Type 0} (xs : List A) → values (map Some xs) ≡ xs
unfolding values
values-map [] = refl
values-map (x ∷ xs) = ap (λ q. x ∷ q) (values-map xs)

same_values : {A : Type 0} (xs ys : List A) → map Some xs ≡ map Some ys → xs ≡ ys
same_values xs ys e = sym (values-map xs) ∙ ap values e ∙ values-map ys

pub rows-next : {A : Type 0} (f : ℕ → Option A) (ns : List ℕ) (i d : ℕ) (rows new : List A) (row : A) → i < length ns
    → f (get_or ns i d) ≡ Some row → new ≡ rows ++ row ∷ []
    → map Some rows ≡ map f (take i ns) → map Some new ≡ map f (take (i + 1) ns)
rows-next f ns i d rows new row lt e is so_far =
    ap (map Some) is
    ∙ map-append Some rows (row ∷ [])
    ∙ ap (λ q. q ++ Some row ∷ []) so_far
    ∙ ap (λ o. map f (take i ns) ++ o ∷ []) (sym e)
    ∙ sym (map-append f (take i ns) (get_or ns i d ∷ []))
    ∙ sym (ap (map f) (take_more ns i d lt))

map-some : {A B C : Type 0} (f : A → B) (g : C → Option A) (xs : List A) (ns : List C) → map Some xs ≡ map g ns
    → map Some (map f xs) ≡ map (λ n. option_map f (g n)) ns
map-some {A = A} {B = B} {C = C} f g xs ns e = twice xs ∙ ap (map (option_map f)) e ∙ under ns
  where
    twice : (xs : List A) → map Some (map f xs) ≡ map (option_map f) (map Some xs)
    twice [] = refl
    twice (x ∷ xs) = ap (λ q. Some (f x) ∷ q) (twice xs)

    under : (ns : List C) → map (option_map f) (map g ns) ≡ map (λ n. option_map f (g n)) ns
    under [] = refl
    under (n ∷ ns) = ap (λ q. option_map f (g n) ∷ q) (under ns)

pub rows-end : {A B : Type 0} (f : A → B) (g : ℕ → Option A) (ns : List ℕ) (i : ℕ) (all : List A) (rows : List B)
    → length ns ≤ i → map Some all ≡ map g ns
    → map Some rows ≡ map (λ n. option_map f (g n)) (take i ns) → rows ≡ map f all
rows-end f g ns i all rows le e r = same_values rows (map f all) (r
    ∙ ap (map (λ n. option_map f (g n))) (take_all i ns le) ∙ sym (map-some f g all ns e))
