-- The first place of items, each of which has places of its own.
use Rattle.std.proofs.Common.{◌≡◌, ℕ, ◌+◌, ◌<◌, ◌≤◌, List, ◌++◌, length, get_or, drop, map, sym, ap, ◌∙◌, Option}
use Rattle.std.proofs.Common.{append_assoc, append-nil}
use Rattle.std.specs.Prelude.{flat_map}
use Rattle.std.proofs.lemmas.List.{drop_all}
use Rattle.cjc_check_rules.specs.declared.spot.ComponentPlace.{ComponentPlace}
use Rattle.cjc_check_rules.specs.Spots.{earlier, first}
use Rattle.cjc_check_rules.proofs.Firsts.{earlier_none, earlier_assoc, first_append, first_nothing}
use Rattle.cjc_capread.proofs.BytesGets.{at_item}

pub flat_more : {A B : Type 0} (view : A → B) (broken : B → List ComponentPlace) (i : ℕ) (x : A) (xs : List A)
    (best found total : Option ComponentPlace)
    → i < length xs → x ≡ get_or xs i x → found ≡ first (broken (view x))
    → earlier best (first (flat_map broken (map view (drop i xs)))) ≡ total
    → earlier (earlier best found) (first (flat_map broken (map view (drop (i + 1) xs)))) ≡ total
flat_more {A} view broken i x xs best found total lt is f so_far =
    let rest = flat_map broken (map view (drop (i + 1) xs)) in
    ap (λ o. earlier (earlier best o) (first rest)) f
    ∙ earlier_assoc best (first (broken (view x))) (first rest)
    ∙ ap (earlier best) (sym (first_append (broken (view x)) rest))
    ∙ ap (λ (ys : List A). earlier best (first (flat_map broken (map view ys)))) (sym (at_item i x xs lt is))
    ∙ so_far

pub flat_all : {A B : Type 0} (view : A → B) (broken : B → List ComponentPlace) (i : ℕ) (xs : List A)
    (best total : Option ComponentPlace)
    → length xs ≤ i → earlier best (first (flat_map broken (map view (drop i xs)))) ≡ total → best ≡ total
flat_all {A} view broken i xs best total le so_far =
    sym (earlier_none best) ∙ ap (earlier best) (sym first_nothing)
    ∙ ap (λ (ys : List A). earlier best (first (flat_map broken (map view ys)))) (sym (drop_all i xs le)) ∙ so_far

-- items that are put down one by one
pub put_more : {A B C : Type 0} (view : A → B) (part : B → List C) (i : ℕ) (x : A) (xs : List A) (done next total :
    List C)
    → i < length xs → x ≡ get_or xs i x → next ≡ done ++ part (view x)
    → done ++ flat_map part (map view (drop i xs)) ≡ total → next ++ flat_map part (map view (drop (i + 1) xs)) ≡ total
put_more {A} {B} {C} view part i x xs done next total lt is n so_far =
    let rest = flat_map part (map view (drop (i + 1) xs)) in
    ap (λ (ys : List C). ys ++ rest) n ∙ append_assoc done (part (view x)) rest
    ∙ ap (λ (ys : List A). done ++ flat_map part (map view ys)) (sym (at_item i x xs lt is)) ∙ so_far

pub put_all : {A B C : Type 0} (view : A → B) (part : B → List C) (i : ℕ) (xs : List A) (done total : List C)
    → length xs ≤ i → done ++ flat_map part (map view (drop i xs)) ≡ total → done ≡ total
put_all {A} view part i xs done total le so_far =
    sym (append-nil done) ∙ ap (λ (ys : List A). done ++ flat_map part (map view ys)) (sym (drop_all i xs le)) ∙ so_far
