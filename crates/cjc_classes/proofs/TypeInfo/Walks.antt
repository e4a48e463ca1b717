-- Type descriptors that are put one behind the other.
use Rattle.std.proofs.Common.{◌≡◌, ℕ, ◌+◌, ◌<◌, ◌≤◌, Bool, true, false, List, [], ◌∷◌, ◌++◌, map, append_assoc}
use Rattle.std.proofs.Common.{refl, sym, ap, ◌∙◌, length, get_or, drop}
use Rattle.std.specs.List.{flat_map}
use Rattle.std.specs.Str.{bytes_eq}
use Rattle.std.proofs.lemmas.List.{drop_all, map-append}
use Rattle.std.proofs.lemmas.List.Concat.{flat_map-cons, flat_map-append}
use Rattle.cjc_bytes.specs.declared.fault.MemberId.{MemberId}
use Rattle.cjc_bytes.proofs.Gets.{get_step}
use Rattle.cjc_components.specs.LowerCapRead.declared.tree.ClassRef.{ClassRef}
use Rattle.cjc_world.specs.ClassFile.declared.tree.ClassTree.{ClassTree}
use Rattle.cjc_components.specs.LowerClassOrder.Supers.Working.Walk.{with_all}
use Rattle.cjc_components.proofs.ClassOrderSets.{all_append}
use Rattle.cjc_components.specs.Types.{desc_of_field}
use Rattle.cjc_classes.specs.TypeInfo.Working.Nibbles.{nibbles_in}
use Rattle.cjc_classes.specs.TypeInfo.Working.Descs.{all_nibbles, desc_of_added, desc_of_method, descs_in}
use Rattle.cjc_classes.specs.TypeInfo.Working.Descs.{nibbles_of_each}

pub walk_next : {A : Type 0} (f : A → List (List ℕ)) (ks : List (List ℕ)) (list : List A) (i : ℕ) (d : A)
    (total : List (List ℕ)) → i < length list
    → with_all ks (flat_map f (drop i list)) ≡ total → with_all (with_all ks (f (get_or list i d)))
    (flat_map f (drop (i + 1) list)) ≡ total
walk_next f ks list i d total lt so_far =
    sym (all_append ks (f (get_or list i d)) (flat_map f (drop (i + 1) list)))
    ∙ (ap (with_all ks) (sym (get_step f list i d lt)) ∙ so_far)

pub walk_end : {A : Type 0} (f : A → List (List ℕ)) (ks : List (List ℕ)) (list : List A) (i : ℕ) (total : List (List ℕ))
    → length list ≤ i
    → with_all ks (flat_map f (drop i list)) ≡ total → ks ≡ total
walk_end f ks list i total le so_far = ap (λ xs. with_all ks (flat_map f xs)) (sym (drop_all i list le)) ∙ so_far

-- the nibbles of the descriptors of all are those of each
pub nibbles_of_all : {A : Type 0} (ref : List ℕ → ClassRef) (f : A → List (List ℕ)) (xs : List A)
    → all_nibbles ref (flat_map f xs) ≡ flat_map (nibbles_of_each ref f) xs
nibbles_of_all ref f [] = refl
nibbles_of_all ref f (x ∷ xs) =
    ap (all_nibbles ref) (flat_map-cons f x xs)
    ∙ map-append (nibbles_in ref) (f x) (flat_map f xs)
    ∙ ap (λ ys. all_nibbles ref (f x) ++ ys) (nibbles_of_all ref f xs)
    ∙ sym (flat_map-cons (nibbles_of_each ref f) x xs)

-- of a class its fields, its methods, and what it got
pub in_class : (ref : List ℕ → ClassRef) (added : List MemberId) (c : ClassTree) (ks : List (List ℕ))
    → with_all (with_all (with_all ks (flat_map (nibbles_of_each ref desc_of_field) c.fields))
    (flat_map (nibbles_of_each ref desc_of_method) c.methods)) (flat_map (nibbles_of_each ref desc_of_added) added)
    ≡ with_all ks (nibbles_of_each ref (descs_in added) c)
in_class ref added c ks =
    let fields = flat_map desc_of_field c.fields in
    let methods = flat_map desc_of_method c.methods in
    let more = flat_map desc_of_added added in
    ap (λ xs. with_all (with_all (with_all ks xs) (flat_map (nibbles_of_each ref desc_of_method) c.methods))
    (flat_map (nibbles_of_each ref desc_of_added) added)) (sym (nibbles_of_all ref desc_of_field c.fields))
    ∙ ap (λ xs. with_all (with_all (with_all ks (all_nibbles ref fields)) xs)
    (flat_map (nibbles_of_each ref desc_of_added) added)) (sym (nibbles_of_all ref desc_of_method c.methods))
    ∙ ap (λ xs. with_all (with_all (with_all ks (all_nibbles ref fields)) (all_nibbles ref methods)) xs)
    (sym (nibbles_of_all ref desc_of_added added))
    ∙ sym (all_append (with_all ks (all_nibbles ref fields)) (all_nibbles ref methods) (all_nibbles ref more))
    ∙ sym (all_append ks (all_nibbles ref fields) (all_nibbles ref methods ++ all_nibbles ref more))
    ∙ ap (λ xs. with_all ks (all_nibbles ref fields ++ xs)) (sym (map-append (nibbles_in ref) methods more))
    ∙ ap (with_all ks) (sym (map-append (nibbles_in ref) fields (methods ++ more)))
