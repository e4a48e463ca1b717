-- Constants that are added one after the other.
use Rattle.std.proofs.Common.{◌≡◌, ℕ, ◌+◌, ◌<◌, ◌≤◌, List, [], ◌∷◌, ◌++◌, refl, sym, ap, ◌∙◌, length, get_or, drop}
use Rattle.std.specs.List.{flat_map}
use Rattle.std.proofs.lemmas.List.{drop_all}
use Rattle.indexmap.specs.IndexSet.{insert_all, insert_key}
use Rattle.cjc_export.specs.Constant.{Constant, same}
use Rattle.cjc_bytes.proofs.Gets.{get_step}

pub needs_append : (ks xs ys : List Constant) → insert_all same ks (xs ++ ys) ≡ insert_all same (insert_all same ks xs)
    ys
needs_append ks [] ys = refl
needs_append ks (x ∷ xs) ys = needs_append (insert_key same ks x) xs ys

pub needs_next : {A : Type 0} (f : A → List Constant) (ks : List Constant) (list : List A) (i : ℕ) (d : A)
    (total : List Constant) → i < length list
    → insert_all same ks (flat_map f (drop i list)) ≡ total → insert_all same (insert_all same ks (f (get_or list i d)))
    (flat_map f (drop (i + 1) list)) ≡ total
needs_next f ks list i d total lt so_far =
    sym (needs_append ks (f (get_or list i d)) (flat_map f (drop (i + 1) list)))
    ∙ (ap (insert_all same ks) (sym (get_step f list i d lt)) ∙ so_far)

pub needs_end : {A : Type 0} (f : A → List Constant) (ks : List Constant) (list : List A) (i : ℕ)
    (total : List Constant) → length list ≤ i
    → insert_all same ks (flat_map f (drop i list)) ≡ total → ks ≡ total
needs_end f ks list i total le so_far = ap (λ xs. insert_all same ks (flat_map f xs)) (sym (drop_all i list le))
    ∙ so_far
