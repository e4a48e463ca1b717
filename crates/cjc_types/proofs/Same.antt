-- Lists that are the same, item by item.
use Rattle.std.proofs.Common.{◌≡◌, ◌<◌, ◌+◌, ℕ, List, [], ◌∷◌, ◌++◌, length, take, get_or, sym, ◌∙◌, ap, arith}
use Rattle.std.proofs.lemmas.List.{take_more, take_all}

pub same_more : {X : Type 0} (xs ys : List X) (i : ℕ) (x y : X) → i < length xs → length xs ≡ length ys
    → x ≡ get_or xs i x → y ≡ get_or ys i y → x ≡ y
    → take i xs ≡ take i ys → take (i + 1) xs ≡ take (i + 1) ys
same_more {X} xs ys i x y lt sized is_x is_y same so_far =
    let within : i < length ys = omega (arith, lt, sized) in
    take_more xs i x lt
    ∙ ap (λ (zs : List X). zs ++ get_or xs i x ∷ []) so_far
    ∙ ap (λ (z : X). take i ys ++ z ∷ []) (sym is_x ∙ same ∙ is_y)
    ∙ sym (take_more ys i y within)

pub same_end : {X : Type 0} (xs ys : List X) (i : ℕ) → length xs ≡ i → length xs ≡ length ys → take i xs ≡ take i ys
    → xs ≡ ys
same_end xs ys i end sized same = sym (take_all i xs (omega (arith, end))) ∙ same
    ∙ take_all i ys (omega (arith, end, sized))
