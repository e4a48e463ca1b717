-- Items that are written one after the other.
use Rattle.std.proofs.Common.{◌≡◌, ℕ, ◌+◌, ◌<◌, ◌≤◌, List, ◌++◌, sym, ap, ◌∙◌, append_assoc, length, get_or, drop}
use Rattle.std.proofs.Common.{slice_get, Some, subst}
use Rattle.std.specs.List.{flat_map}
use Rattle.std.proofs.lemmas.List.{append-nil, drop_all}
use Rattle.std.proofs.lemmas.Option.{get_or_from_slice_get, slice_get_within}
use Rattle.cjc_bytes.proofs.Gets.{get_step}

pub put_next : {A : Type 0} (f : A → List ℕ) (out : List ℕ) (list : List A) (i : ℕ) (d : A) (total : List ℕ)
    → i < length list
    → out ++ flat_map f (drop i list) ≡ total → (out ++ f (get_or list i d)) ++ flat_map f (drop (i + 1) list) ≡ total
put_next f out list i d total lt so_far =
    append_assoc out (f (get_or list i d)) (flat_map f (drop (i + 1) list))
    ∙ (ap (λ b. out ++ b) (sym (get_step f list i d lt)) ∙ so_far)

pub put_end : {A : Type 0} (f : A → List ℕ) (out : List ℕ) (list : List A) (i : ℕ) (total : List ℕ) → length list ≤ i
    → out ++ flat_map f (drop i list) ≡ total → out ≡ total
put_end f out list i total le so_far = sym (append-nil out)
    ∙ (ap (λ xs. out ++ flat_map f xs) (sym (drop_all i list le)) ∙ so_far)

pub put_at : {A : Type 0} (f : A → List ℕ) (out : List ℕ) (list : List A) (i : ℕ) (x : A) (total : List ℕ)
    → slice_get list i ≡ Some x
    → out ++ flat_map f (drop i list) ≡ total → (out ++ f x) ++ flat_map f (drop (i + 1) list) ≡ total
put_at {A = A} f out list i x total e so_far =
    subst (λ (y : A). (out ++ f y) ++ flat_map f (drop (i + 1) list) ≡ total) (get_or_from_slice_get list i x x e)
    (put_next f out list i x total (slice_get_within list i x e) so_far)
