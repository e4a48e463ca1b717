-- Lists that are put together behind others, one item at a time.
use Rattle.std.proofs.Common.{◌≡◌, ℕ, ◌+◌, ◌<◌, List, [], ◌∷◌, ◌++◌, length, take, get_or, refl, sym, ap, ◌∙◌}
use Rattle.std.specs.List.{flat_map}
use Rattle.std.proofs.lemmas.List.{flat_map_more, take_more}

pub flat_next : {A B : Type 0} (f : A → List B) (xs : List A) (k : ℕ) (x : A) (front now new : List B)
    → k < length xs → x ≡ get_or xs k x → now ≡ front ++ flat_map f (take k xs) → new ≡ now ++ f x
    → new ≡ front ++ flat_map f (take (k + 1) xs)
flat_next f xs k x front now new lt is so_far put =
    put ∙ ap (λ ys. ys ++ f x) so_far ∙ flat_map_more f front (take k xs) x
    ∙ ap (λ ys. front ++ flat_map f (take k xs ++ ys ∷ [])) is
    ∙ ap (λ ys. front ++ flat_map f ys) (sym (take_more xs k x lt))
