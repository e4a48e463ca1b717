-- Items with their numbers, in a loop.
use Rattle.std.proofs.Common.{◌≡◌, ℕ, ◌+◌, ◌<◌, ◌≤◌, List, ◌∷◌, length, get_or, drop, sym, ap, ◌∙◌, Option}
use Rattle.std.proofs.lemmas.List.{drop_more, drop_all}
use Rattle.cjc_check_rules.specs.Spots.{ComponentPlace, numbered, earlier, first}
use Rattle.cjc_check_rules.proofs.Firsts.{earlier_none, earlier_assoc, first_append}

pub numbered_more : {A : Type 0} (size : A → ℕ) (broken : (number at : ℕ) → A → List ComponentPlace) (at next i : ℕ)
    (x : A) (xs : List A) (best found total : Option ComponentPlace)
    → i < length xs → x ≡ get_or xs i x → next ≡ at + size x → found ≡ first (broken i at x)
    → earlier best (first (numbered size broken i at (drop i xs))) ≡ total
    → earlier (earlier best found) (first (numbered size broken (i + 1) next (drop (i + 1) xs))) ≡ total
unfolding numbered
numbered_more {A} size broken at next i x xs best found total lt is n f so_far =
    let d : drop i xs ≡ x ∷ drop (i + 1) xs = drop_more xs i x lt ∙ ap (λ (y : A). y ∷ drop (i + 1) xs) (sym is) in
    let rest = numbered size broken (i + 1) (at + size x) (drop (i + 1) xs) in
    let one : first (numbered size broken i at (drop i xs)) ≡ earlier (first (broken i at x)) (first rest) =
    ap (λ (ys : List A). first (numbered size broken i at ys)) d ∙ first_append (broken i at x) rest in
    rw (n, f) (earlier_assoc best (first (broken i at x)) (first rest) ∙ ap (earlier best) (sym one) ∙ so_far)

pub numbered_all : {A : Type 0} (size : A → ℕ) (broken : (number at : ℕ) → A → List ComponentPlace) (at i : ℕ)
    (xs : List A) (best total : Option ComponentPlace)
    → length xs ≤ i → earlier best (first (numbered size broken i at (drop i xs))) ≡ total → best ≡ total
unfolding numbered first
numbered_all {A} size broken at i xs best total le so_far =
    sym (earlier_none best) ∙ ap (λ (ys : List A). earlier best (first (numbered size broken i at ys)))
    (sym (drop_all i xs le)) ∙ so_far
