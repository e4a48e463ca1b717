-- One item more of a list that is mapped.
use Rattle.std.proofs.Common.{◌≡◌, ◌∙◌, ℕ, ◌+◌, ◌<◌, List, [], ◌∷◌, ◌++◌, map, length, take, get_or, sym, ap}
use Rattle.std.proofs.lemmas.List.{map-append, take_more}

pub map_next : {A B : Type 0} (f : A → B) (row : List B) (xs : List A) (i : ℕ) (x : A) (y : B) → i < length xs
    → x ≡ get_or xs i x → y ≡ f x → row ≡ map f (take i xs) → row ++ y ∷ [] ≡ map f (take (i + 1) xs)
map_next f row xs i x y lt is e so_far =
    ap (λ r. r ++ y ∷ []) so_far
    ∙ ap (λ z. map f (take i xs) ++ z ∷ []) (e ∙ ap f is)
    ∙ sym (map-append f (take i xs) (get_or xs i x ∷ []))
    ∙ ap (map f) (sym (take_more xs i x lt))
