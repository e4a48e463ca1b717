-- Items beside others, in a loop over both.
use Rattle.std.proofs.Common.{◌≡◌, ℕ, ◌+◌, ◌<◌, ◌≤◌, List, [], ◌∷◌, ◌++◌, length, get_or, drop, refl, sym, ap, ◌∙◌}
use Rattle.std.proofs.Common.{Option}
use Rattle.std.proofs.lemmas.List.{drop_more, drop_all}
use Rattle.cjc_check_rules.specs.Spots.{ComponentPlace, beside, earlier, first}
use Rattle.cjc_check_rules.proofs.Firsts.{earlier_none, earlier_assoc, first_append}

no_other : {A B : Type 0} (size : A → ℕ) (broken : ℕ → A → B → List ComponentPlace) (at : ℕ) (xs : List A)
    → beside size broken at xs [] ≡ []
unfolding beside
no_other size broken at [] = refl
no_other size broken at (x ∷ xs) = refl

no_item : {A B : Type 0} (size : A → ℕ) (broken : ℕ → A → B → List ComponentPlace) (at : ℕ) (ys : List B)
    → beside size broken at [] ys ≡ []
unfolding beside
no_item size broken at [] = refl
no_item size broken at (y ∷ ys) = refl

step : {A B : Type 0} (size : A → ℕ) (broken : ℕ → A → B → List ComponentPlace) (at i : ℕ) (x : A) (y : B) (xs : List A)
    (ys : List B)
    → i < length xs → i < length ys → x ≡ get_or xs i x → y ≡ get_or ys i y
    → beside size broken at (drop i xs) (drop i ys) ≡ broken at x y
    ++ beside size broken (at + size x) (drop (i + 1) xs) (drop (i + 1) ys)
unfolding beside
step {A} {B} size broken at i x y xs ys lx ly xi yi =
    let d : drop i xs ≡ x ∷ drop (i + 1) xs = drop_more xs i x lx ∙ ap (λ (z : A). z ∷ drop (i + 1) xs) (sym xi) in
    let e : drop i ys ≡ y ∷ drop (i + 1) ys = drop_more ys i y ly ∙ ap (λ (z : B). z ∷ drop (i + 1) ys) (sym yi) in
    ap (λ (zs : List A). beside size broken at zs (drop i ys)) d
    ∙ ap (λ (zs : List B). beside size broken at (x ∷ drop (i + 1) xs) zs) e

pub beside_more : {A B : Type 0} (size : A → ℕ) (broken : ℕ → A → B → List ComponentPlace) (at next i : ℕ) (x : A)
    (y : B) (xs : List A) (ys : List B) (best found total : Option ComponentPlace)
    → i < length xs → i < length ys → x ≡ get_or xs i x → y ≡ get_or ys i y → next ≡ at + size x
    → found ≡ first (broken at x y)
    → earlier best (first (beside size broken at (drop i xs) (drop i ys))) ≡ total
    → earlier (earlier best found) (first (beside size broken next (drop (i + 1) xs) (drop (i + 1) ys))) ≡ total
beside_more size broken at next i x y xs ys best found total lx ly xi yi n f so_far =
    let rest = beside size broken (at + size x) (drop (i + 1) xs) (drop (i + 1) ys) in
    let one : first (beside size broken at (drop i xs) (drop i ys)) ≡ earlier (first (broken at x y)) (first rest) =
    ap first (step size broken at i x y xs ys lx ly xi yi) ∙ first_append (broken at x y) rest in
    rw (n, f) (earlier_assoc best (first (broken at x y)) (first rest) ∙ ap (earlier best) (sym one) ∙ so_far)

over : (best total : Option ComponentPlace) (spots : List ComponentPlace) → spots ≡ [] → earlier best (first spots)
    ≡ total → best ≡ total
unfolding first
over best total spots e so_far = sym (earlier_none best) ∙ ap (λ (xs : List ComponentPlace). earlier best (first xs))
    (sym e) ∙ so_far

pub beside_short : {A B : Type 0} (size : A → ℕ) (broken : ℕ → A → B → List ComponentPlace) (at i : ℕ) (xs : List A)
    (ys : List B) (best total : Option ComponentPlace) → length ys ≤ i
    → earlier best (first (beside size broken at (drop i xs) (drop i ys))) ≡ total → best ≡ total
beside_short {A} {B} size broken at i xs ys best total le so_far =
    over best total (beside size broken at (drop i xs) (drop i ys))
    (ap (λ (zs : List B). beside size broken at (drop i xs) zs) (drop_all i ys le)
    ∙ no_other size broken at (drop i xs)) so_far

pub beside_all : {A B : Type 0} (size : A → ℕ) (broken : ℕ → A → B → List ComponentPlace) (at i : ℕ) (xs : List A)
    (ys : List B) (best total : Option ComponentPlace) → length xs ≤ i
    → earlier best (first (beside size broken at (drop i xs) (drop i ys))) ≡ total → best ≡ total
beside_all {A} {B} size broken at i xs ys best total le so_far =
    over best total (beside size broken at (drop i xs) (drop i ys)) (ap (λ (zs : List A). beside size broken at zs
    (drop i ys)) (drop_all i xs le) ∙ no_item size broken at (drop i ys)) so_far
