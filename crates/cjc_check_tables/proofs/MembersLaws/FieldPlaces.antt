-- Places of fields put into a set, one by one.
use Rattle.std.proofs.Common.{◌≡◌, ℕ, ◌+◌, ◌<◌, ◌≤◌, Bool, true, false, List, [], ◌∷◌, length, get_or, drop, refl, sym}
use Rattle.std.proofs.Common.{ap, ◌∙◌}
use Rattle.std.specs.Prelude.{◌||◌, cond, flat_map}
use Rattle.std.specs.List.{list_any}
use Rattle.std.proofs.lemmas.List.{drop_more, drop_all}
use Rattle.std.proofs.lemmas.List.Folds.{list_any-append}
use Rattle.cjc_capread.specs.declared.tree.ClassDescriptor.{ClassDescriptor}
use Rattle.cjc_capread.specs.declared.tree.ClassRef.{ClassRef}
use Rattle.cjc_capread.specs.declared.tree.FieldDescriptor.{FieldDescriptor}
use Rattle.cjc_capread.specs.declared.tree.FieldPlace.{FieldPlace}
use Rattle.cjc_capread.specs.declared.tree.FieldPlace.TheVariants.{Static, Instance}
use Rattle.cjc_check_rules.specs.Members.{is_cell_at, is_instance}
use Rattle.cjc_check_tables.specs.Members.Working.Fields.{has_place, same_place}
use Rattle.cjc_check_index.proofs.ImportedLaws.Loops.{or_false}
use Rattle.cjc_capread.proofs.BytesBools.{or_assoc}

regroup : (s c rest : Bool) → (cond s true c || rest) ≡ (c || (s || rest))
regroup true true rest = refl
regroup true false rest = refl
regroup false c rest = refl

pub fields_more : (i : ℕ) (d : FieldDescriptor) (fields : List FieldDescriptor) (place : FieldPlace) (old new total :
    Bool) → i < length fields → new ≡ cond (same_place (get_or fields i d).place place) true old
    → (old || has_place (drop i fields) place) ≡ total → (new || has_place (drop (i + 1) fields) place) ≡ total
fields_more i d fields place old new total lt n so_far =
    let rest = has_place (drop (i + 1) fields) place in
    ap (λ b. b || rest) n ∙ regroup (same_place (get_or fields i d).place place) old rest
    ∙ ap (λ (xs : List FieldDescriptor). old || has_place xs place) (sym (drop_more fields i d lt)) ∙ so_far

pub fields_all : (i : ℕ) (fields : List FieldDescriptor) (place : FieldPlace) (old total : Bool) → length fields ≤ i
    → (old || has_place (drop i fields) place) ≡ total → old ≡ total
fields_all i fields place old total le so_far = sym (or_false old) ∙ ap (λ (xs : List FieldDescriptor). old
    || has_place xs place) (sym (drop_all i fields le)) ∙ so_far

pub classes_more : (i : ℕ) (x : ClassDescriptor) (classes : List ClassDescriptor) (place : FieldPlace) (old new total :
    Bool) → i < length classes → x ≡ get_or classes i x → new ≡ (old || has_place x.fields place)
    → (old || has_place (flat_map (λ d. d.fields) (drop i classes)) place) ≡ total
    → (new || has_place (flat_map (λ d. d.fields) (drop (i + 1) classes)) place) ≡ total
classes_more i x classes place old new total lt is n so_far =
    let d : drop i classes ≡ x ∷ drop (i + 1) classes = drop_more classes i x lt ∙ ap (λ (y : ClassDescriptor). y
    ∷ drop (i + 1) classes) (sym is) in
    let rest = flat_map (λ (y : ClassDescriptor). y.fields) (drop (i + 1) classes) in
    ap (λ b. b || has_place rest place) n ∙ or_assoc old (has_place x.fields place) (has_place rest place)
    ∙ ap (λ b. old || b) (sym (list_any-append (λ (f : FieldDescriptor). same_place f.place place) x.fields rest))
    ∙ ap (λ (xs : List ClassDescriptor). old || has_place (flat_map (λ (y : ClassDescriptor). y.fields) xs) place)
    (sym d) ∙ so_far

pub classes_all : (i : ℕ) (classes : List ClassDescriptor) (place : FieldPlace) (old total : Bool) → length classes ≤ i
    → (old || has_place (flat_map (λ d. d.fields) (drop i classes)) place) ≡ total → old ≡ total
classes_all i classes place old total le so_far =
    sym (or_false old) ∙ ap (λ (xs : List ClassDescriptor). old
    || has_place (flat_map (λ (y : ClassDescriptor). y.fields) xs) place) (sym (drop_all i classes le)) ∙ so_far

-- ---- the places that are asked for

cell_is : (place : FieldPlace) (offset : ℕ) → same_place place (Static offset) ≡ is_cell_at place offset
cell_is (Static at) offset = refl
cell_is (Instance class token) offset = refl

instance_is : (place : FieldPlace) (class : ClassRef) (token : ℕ) → same_place place (Instance class token)
    ≡ is_instance place class token
instance_is (Static at) class token = refl
instance_is (Instance owner t) class token = refl

pub cells_are : (fields : List FieldDescriptor) (offset : ℕ) → has_place fields (Static offset)
    ≡ list_any (λ f. is_cell_at f.place offset) fields
cells_are [] offset = refl
cells_are (f ∷ fields) offset = ap (λ b. b || has_place fields (Static offset)) (cell_is f.place offset)
    ∙ ap (λ b. is_cell_at f.place offset || b) (cells_are fields offset)

pub instances_are : (fields : List FieldDescriptor) (class : ClassRef) (token : ℕ)
    → has_place fields (Instance class token) ≡ list_any (λ f. is_instance f.place class token) fields
instances_are [] class token = refl
instances_are (f ∷ fields) class token = ap (λ b. b || has_place fields (Instance class token))
    (instance_is f.place class token) ∙ ap (λ b. is_instance f.place class token
    || b) (instances_are fields class token)
