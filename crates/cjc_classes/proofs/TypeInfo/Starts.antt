-- Where type descriptors begin.
use Rattle.std.proofs.Common.{◌≡◌, ℕ, suc, ◌+◌, ◌*◌, ◌/◌, ◌<◌, ◌≤◌, List, [], ◌∷◌, ◌++◌, map, length, get_or, slice_get}
use Rattle.std.proofs.Common.{drop, take, refl, sym, ap, ◌∙◌, append_assoc, append-nil, Option, Some, None}
use Rattle.std.proofs.lemmas.List.{drop_more, drop_all, map-append, take_more}
use Rattle.std.proofs.lemmas.Option.{slice_get_within, get_or_from_slice_get}
use Rattle.cjc_components.specs.LowerCapRead.declared.tree.TypeDescriptor.{TypeDescriptor}
use Rattle.cjc_components.specs.LowerCheckRules.Spots.{placed, starts}
use Rattle.cjc_components.specs.LowerCheckRules.Complete.{type_size}
use Rattle.cjc_components.specs.Types.{type_descriptor}

pub starts_next : (row : List ℕ) (at : ℕ) (types : List (List ℕ)) (i : ℕ) (x : List ℕ) (total : List ℕ)
    → slice_get types i ≡ Some x
    → row ++ starts type_size at (map type_descriptor (drop i types)) ≡ total → (row ++ at ∷ [])
    ++ starts type_size (at + (1 + suc (length x) / 2)) (map type_descriptor (drop (i + 1) types)) ≡ total
unfolding placed
starts_next row at types i x total e so_far =
    let lt = slice_get_within types i x e in
    let d : drop i types ≡ x ∷ drop (i + 1) types = drop_more types i x lt ∙ ap (λ (y : List ℕ). y ∷ drop (i + 1) types)
    (get_or_from_slice_get types i x x e) in
    append_assoc row (at ∷ []) (starts type_size (at + (1 + suc (length x) / 2))
    (map type_descriptor (drop (i + 1) types)))
    ∙ ap (λ (ys : List (List ℕ)). row ++ starts type_size at (map type_descriptor ys)) (sym d)
    ∙ so_far

pub starts_end : (row : List ℕ) (at : ℕ) (types : List (List ℕ)) (i : ℕ) (total : List ℕ) → length types ≤ i
    → row ++ starts type_size at (map type_descriptor (drop i types)) ≡ total → row ≡ total
unfolding placed
starts_end row at types i total le so_far = sym (append-nil row) ∙ ap (λ (ys : List (List ℕ)). row
    ++ starts type_size at (map type_descriptor ys)) (sym (drop_all i types le)) ∙ so_far

-- the list of all
pub types_next : (row : List TypeDescriptor) (types : List (List ℕ)) (i : ℕ) (x : List ℕ) → slice_get types i ≡ Some x
    → row ≡ map type_descriptor (take i types)
    → row ++ type_descriptor x ∷ [] ≡ map type_descriptor (take (i + 1) types)
types_next row types i x e so_far =
    let lt = slice_get_within types i x e in
    ap (λ r. r ++ type_descriptor x ∷ []) so_far
    ∙ sym (map-append type_descriptor (take i types) (x ∷ []))
    ∙ ap (λ (y : List ℕ). map type_descriptor (take i types ++ y ∷ [])) (sym (get_or_from_slice_get types i x x e))
    ∙ ap (map type_descriptor) (sym (take_more types i x lt))
