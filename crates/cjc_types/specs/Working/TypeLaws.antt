-- What the cells of types and of elements are: own cells, which grow with the cells that they come from.
use Rattle.std.proofs.Common.{◌≡◌, ◌≤◌, ◌<◌, ◌+◌, ◌==◌, ℕ, Bool, true, false, cond, List, [], ◌∷◌, length, drop, get_or}
use Rattle.std.proofs.Common.{Option, Some, None, All, refl, sym, ◌∙◌, ap, subst, inl, inr, arith}
use Rattle.std.proofs.lemmas.List.{drop_more}
use Rattle.std.proofs.lemmas.List.Elements.{All-nil, All-cons}
use Rattle.cjc_bytes.specs.Descriptor.{Part}
use Rattle.cjc_bytes.specs.declared.descriptor.Kind.{Kind}
use Rattle.cjc_bytes.specs.declared.descriptor.Kind.TheVariants as kinds
use Rattle.cjc_code.specs.Jvm as jvm
use Rattle.cjc_types.specs.declared.cell.Cell.{Cell}
use Rattle.cjc_types.specs.declared.cell.Cell.TheVariants.{Number, Refs, Unusable}
use Rattle.cjc_types.specs.Names.{In, IsSet, IsWithin}
use Rattle.cjc_types.specs.Working.NameLaws.{insert_new, insert_old, insert_cases, set_insert}
use Rattle.cjc_types.specs.Cells.{most_names, refs, IsCell, IsCellBelow}
use Rattle.cjc_types.specs.Working.CellLaws.{own_refs, refs_up}
use Rattle.cjc_types.specs.Types.{cell_of, value_of, is_void, result_of, held, with_held, elements, element_of}
use Rattle.cjc_types.specs.Types.{as_reference}

one_name : 1 ≤ most_names
unfolding most_names
one_name = omega arith

-- one type, and none
pub own_one : (name : List ℕ) → IsCell (Refs (name ∷ []))
own_one name = record { set = (tt, tt); few = one_name }

-- the cell of null is own
pub own_null : IsCell (Refs [])
own_null = record { set = tt; few = omega arith }

own_kind : (kind : Kind) (class : List ℕ) → IsCell (cell_of kind class)
own_kind kinds.Bool class = tt
own_kind kinds.Byte class = tt
own_kind kinds.Short class = tt
own_kind kinds.Int class = tt
own_kind kinds.Other class = tt
own_kind kinds.Ref class = own_one class
own_kind kinds.Void class = tt

-- the cell of a value of a type is own
pub own_value : (p : Part) → IsCell (value_of p)
own_value p = own_kind p.kind p.class

-- what a result puts on the stack is own
pub own_result : (p : Part) → All IsCell (result_of p)
own_result p = go (is_void p.kind)
  where
    go : (b : Bool) → All IsCell (cond b [] (value_of p ∷ []))
    go true = All-nil IsCell
    go false = All-cons IsCell (value_of p) [] (own_value p) (All-nil IsCell)

-- ---- elements

-- a set with the type that an array holds is a set
pub set_held : (found : Option (List ℕ)) (names : List (List ℕ)) → IsSet names → IsSet (with_held found names)
set_held None names h = h
set_held (Some name) names h = set_insert name names h

set_elements : (xs names : List (List ℕ)) → IsSet names → IsSet (elements xs names)
set_elements [] names h = h
set_elements (x ∷ xs) names h = set_elements xs (with_held (held x) names) (set_held (held x) names h)

held_old : (found : Option (List ℕ)) (names : List (List ℕ)) → IsWithin names (with_held found names)
held_old None names n h = h
held_old (Some name) names n h = insert_old name n names h

elements_old : (xs names : List (List ℕ)) → IsWithin names (elements xs names)
elements_old [] names n h = h
elements_old (x ∷ xs) names n h = elements_old xs (with_held (held x) names) n (held_old (held x) names n h)

elements_new : (xs names : List (List ℕ)) (m n : List ℕ) → In m xs → held m ≡ Some n → In n (elements xs names)
elements_new [] names m n h is = absurd h
elements_new (x ∷ xs) names m n (inl same) is = elements_old xs (with_held (held x) names) n
    (subst (λ (o : Option (List ℕ)). In n (with_held o names)) (sym (ap held same ∙ is)) (insert_new n names))
elements_new (x ∷ xs) names m n (inr later) is = elements_new xs (with_held (held x) names) m n later is

elements_least : (xs names zs : List (List ℕ)) → IsWithin names zs → ((m n : List ℕ) → In m xs → held m ≡ Some n
    → In n zs) → IsWithin (elements xs names) zs
elements_least [] names zs h k = h
elements_least (x ∷ xs) names zs h k = elements_least xs (with_held (held x) names) zs (go (held x) refl)
    (λ m n has is. k m n (inr has) is)
  where
    go : (found : Option (List ℕ)) → held x ≡ found → IsWithin (with_held found names) zs
    go None e n is = h n is
    go (Some name) e n is = elim (insert_cases name n names is) [
      | inl same ↦ subst (λ (m : List ℕ). In m zs) same (k x name (inl refl) e)
      | inr old ↦ h n old
    ]

elements_up : (xs ys : List (List ℕ)) → IsWithin xs ys → IsWithin (elements xs []) (elements ys [])
elements_up xs ys h = elements_least xs [] (elements ys []) (λ n is. absurd is) (λ m n has is. elements_new ys [] m n
    (h m has) is)

-- what an array load gives from an own cell is own
pub own_element : (opcode : ℕ) (x : Cell) → IsCell x → IsCell (element_of opcode x)
own_element opcode Number own = tt
own_element opcode (Refs names) own = go (opcode == jvm.aaload)
  where
    go : (b : Bool) → IsCell (cond b (refs (elements names [])) Number)
    go true = own_refs (elements names []) (set_elements names [] tt)
    go false = tt
own_element opcode Unusable own = tt

-- what an array load gives grows with the cell of the array
pub element_up : (opcode : ℕ) (x y : Cell) → IsCellBelow x y → IsCellBelow (element_of opcode x) (element_of opcode y)
element_up opcode x Number h = tt_for x h
  where
    tt_for : (x : Cell) → IsCellBelow x Number → IsCellBelow (element_of opcode x) Unusable
    tt_for x h = tt
element_up opcode x Unusable h = tt
element_up opcode Number (Refs ys) h = absurd h
element_up opcode Unusable (Refs ys) h = absurd h
element_up opcode (Refs xs) (Refs ys) h = go (opcode == jvm.aaload)
  where
    go : (b : Bool) → IsCellBelow (cond b (refs (elements xs [])) Number) (cond b (refs (elements ys [])) Number)
    go true = refs_up (elements xs []) (elements ys []) (set_elements xs [] tt) (set_elements ys [] tt)
        (elements_up xs ys h)
    go false = tt

-- ---- references

-- what astore or aload makes of an own cell is own
pub own_reference : (x : Cell) → IsCell x → IsCell (as_reference x)
own_reference Number own = tt
own_reference (Refs names) own = own
own_reference Unusable own = tt

-- what astore or aload makes of a cell grows with the cell
pub reference_up : (x y : Cell) → IsCellBelow x y → IsCellBelow (as_reference x) (as_reference y)
reference_up x Number h = tt
reference_up x Unusable h = tt
reference_up Number (Refs ys) h = absurd h
reference_up Unusable (Refs ys) h = absurd h
reference_up (Refs xs) (Refs ys) h = h

-- ---- a step of the loop over arrays

-- what the arrays from a place on hold is what those behind it do, with what the one there holds put in first
pub elements_next : (types names more : List (List ℕ)) (i : ℕ) (array given : List ℕ) → i < length types
    → array ≡ get_or types i array → given ≡ array → more ≡ with_held (held given) names
    → elements (drop (i + 1) types) more ≡ elements (drop i types) names
elements_next types names more i array given lt read same is =
    let split : drop i types ≡ array ∷ drop (i + 1) types = drop_more types i array lt
    ∙ ap (λ (n : List ℕ). n ∷ drop (i + 1) types) (sym read) in
    ap (elements (drop (i + 1) types)) (is ∙ ap (λ (n : List ℕ). with_held (held n) names) same)
    ∙ ap (λ (zs : List (List ℕ)). elements zs names) (sym split)
