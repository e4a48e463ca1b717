-- What is put for each item of a list, one after the other.
use Rattle.std.proofs.Common.{◌≡◌, ℕ, suc, ◌+◌, ◌≤◌, ◌<◌, List, ◌++◌, length, get_or, drop, drop-cons, add-one, sym}
use Rattle.std.proofs.Common.{◌∙◌, append_assoc}
use Rattle.std.specs.List.{flat_map}
use Rattle.std.proofs.lemmas.List.{append-nil, drop_all}

pub flat_more : {X : Type 0} (f : X → List ℕ) (list : List X) (i : ℕ) (d : X) (front total : List ℕ) → i < length list
    → front ++ flat_map f (drop i list) ≡ total → (front ++ f (get_or list i d)) ++ flat_map f (drop (i + 1) list)
    ≡ total
flat_more f list i d front total lt so_far =
    let step : front ++ flat_map f (drop i list) ≡ (front ++ f (get_or list i d)) ++ flat_map f (drop (i + 1) list) =
    rw (add-one, drop-cons list i d lt) (sym (append_assoc front (f (get_or list i d))
    (flat_map f (drop (suc i) list)))) in
    sym step ∙ so_far

pub flat_ends : {X : Type 0} (f : X → List ℕ) (list : List X) (i : ℕ) (front total : List ℕ) → length list ≤ i
    → front ++ flat_map f (drop i list) ≡ total → front ≡ total
flat_ends f list i front total le so_far =
    let step : front ++ flat_map f (drop i list) ≡ front = rw (drop_all i list le) (append-nil front) in
    sym step ∙ so_far
