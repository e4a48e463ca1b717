-- What an instruction gives of own cells is own, and grows with them.
use Rattle.std.proofs.Common.{◌≡◌, ◌<◌, ◌+◌, ℕ, List, [], ◌∷◌, map, length, drop, get_or, Option, Some, None, All, refl}
use Rattle.std.proofs.Common.{sym, ◌∙◌, ap, subst, inl, inr}
use Rattle.std.proofs.lemmas.List.{drop_more}
use Rattle.std.proofs.lemmas.List.Elements.{All-nil, All-cons}
use Rattle.cjc_types.specs.declared.cell.Cell.{Cell}
use Rattle.cjc_types.specs.declared.cell.Cell.TheVariants.{Number, Refs, Unusable}
use Rattle.cjc_types.specs.Names.{In, IsSet, IsWithin}
use Rattle.cjc_types.specs.Cells.{refs, IsCell, IsCellBelow}
use Rattle.cjc_types.specs.Steps.{operand}
use Rattle.cjc_types.specs.Types.{as_reference}
use Rattle.cjc_types.specs.Working.NameLaws.{insert_new, insert_old, insert_cases, set_insert}
use Rattle.cjc_types.specs.Working.CellLaws.{own_refs, refs_up, below_refl}
use Rattle.cjc_types.specs.Working.TypeLaws.{own_one, own_null, own_reference, reference_up}
use Rattle.cjc_types.specs.Working.OperandLaws.{read_own, read_up}
use Rattle.cjc_types.specs.Working.StepLaws.{AreBelow}
use Rattle.cjc_frames.specs.Types.{held, with_held, elements, element_of, item_of}
use Rattle.cjc_frames.specs.declared.acts.Given.{Given}
use Rattle.cjc_frames.specs.declared.acts.Given.TheVariants.{ANumber, ANull, AnObject, Lost, Operand, Reference, Local}
use Rattle.cjc_frames.specs.declared.acts.Given.TheVariants.{Element, Item}
use Rattle.cjc_frames.specs.Acts.{given}

-- ---- elements

-- a set with the type that an array holds is a set
pub set_held : (found : Option (List ℕ)) (types : List (List ℕ)) → IsSet types → IsSet (with_held found types)
set_held None types h = h
set_held (Some type) types h = set_insert type types h

set_elements : (xs types : List (List ℕ)) → IsSet types → IsSet (elements xs types)
set_elements [] types h = h
set_elements (x ∷ xs) types h = set_elements xs (with_held (held x) types) (set_held (held x) types h)

held_old : (found : Option (List ℕ)) (types : List (List ℕ)) → IsWithin types (with_held found types)
held_old None types n h = h
held_old (Some type) types n h = insert_old type n types h

elements_old : (xs types : List (List ℕ)) → IsWithin types (elements xs types)
elements_old [] types n h = h
elements_old (x ∷ xs) types n h = elements_old xs (with_held (held x) types) n (held_old (held x) types n h)

elements_new : (xs types : List (List ℕ)) (m n : List ℕ) → In m xs → held m ≡ Some n → In n (elements xs types)
elements_new [] types m n h is = absurd h
elements_new (x ∷ xs) types m n (inl same) is = elements_old xs (with_held (held x) types) n
    (subst (λ (o : Option (List ℕ)). In n (with_held o types)) (sym (ap held same ∙ is)) (insert_new n types))
elements_new (x ∷ xs) types m n (inr later) is = elements_new xs (with_held (held x) types) m n later is

elements_least : (xs types zs : List (List ℕ)) → IsWithin types zs → ((m n : List ℕ) → In m xs → held m ≡ Some n
    → In n zs) → IsWithin (elements xs types) zs
elements_least [] types zs h k = h
elements_least (x ∷ xs) types zs h k = elements_least xs (with_held (held x) types) zs (go (held x) refl)
    (λ m n has is. k m n (inr has) is)
  where
    go : (found : Option (List ℕ)) → held x ≡ found → IsWithin (with_held found types) zs
    go None e n is = h n is
    go (Some type) e n is = elim (insert_cases type n types is) [
      | inl same ↦ subst (λ (m : List ℕ). In m zs) same (k x type (inl refl) e)
      | inr old ↦ h n old
    ]

elements_up : (xs ys : List (List ℕ)) → IsWithin xs ys → IsWithin (elements xs []) (elements ys [])
elements_up xs ys h = elements_least xs [] (elements ys []) (λ n is. absurd is) (λ m n has is. elements_new ys [] m n
    (h m has) is)

own_element : (x : Cell) → IsCell x → IsCell (element_of x)
own_element Number own = tt
own_element (Refs types) own = own_refs (elements types []) (set_elements types [] tt)
own_element Unusable own = tt

element_up : (x y : Cell) → IsCellBelow x y → IsCellBelow (element_of x) (element_of y)
element_up x Number h = tt
element_up x Unusable h = tt
element_up Number (Refs ys) h = absurd h
element_up Unusable (Refs ys) h = absurd h
element_up (Refs xs) (Refs ys) h = refs_up (elements xs []) (elements ys []) (set_elements xs [] tt) (set_elements ys []
    tt) (elements_up xs ys h)

own_item : (x : Cell) → IsCell x → IsCell (item_of x)
own_item Number own = tt
own_item (Refs types) own = tt
own_item Unusable own = tt

item_up : (x y : Cell) → IsCellBelow x y → IsCellBelow (item_of x) (item_of y)
item_up x Number h = tt
item_up x Unusable h = tt
item_up Number (Refs ys) h = absurd h
item_up Unusable (Refs ys) h = absurd h
item_up (Refs xs) (Refs ys) h = tt

-- ---- what is given

own_operand : (xs : List Cell) (k : ℕ) → All IsCell xs → IsCell (operand xs k)
own_operand xs k h = read_own IsCell Unusable tt xs k h

operand_up : (xs ys : List Cell) (k : ℕ) → AreBelow xs ys → IsCellBelow (operand xs k) (operand ys k)
operand_up xs ys k h = read_up IsCellBelow Unusable tt xs ys k h

-- of own cells an own one is given
pub own_given : (locals s : List Cell) (g : Given) → All IsCell locals → All IsCell s → IsCell (given locals s g)
own_given locals s ANumber own_l own_s = tt
own_given locals s ANull own_l own_s = own_null
own_given locals s (AnObject type) own_l own_s = own_one type
own_given locals s Lost own_l own_s = tt
own_given locals s (Operand k) own_l own_s = own_operand s k own_s
own_given locals s (Reference k) own_l own_s = own_reference (operand s k) (own_operand s k own_s)
own_given locals s (Local k) own_l own_s = own_reference (operand locals k) (own_operand locals k own_l)
own_given locals s (Element k) own_l own_s = own_element (operand s k) (own_operand s k own_s)
own_given locals s (Item k) own_l own_s = own_item (operand s k) (own_operand s k own_s)

-- what is given grows with the cells
pub given_up : (locals more s t : List Cell) (g : Given) → AreBelow locals more → AreBelow s t
    → IsCellBelow (given locals s g) (given more t g)
given_up locals more s t ANumber h k = tt
given_up locals more s t ANull h k = below_refl (Refs [])
given_up locals more s t (AnObject type) h k = below_refl (Refs (type ∷ []))
given_up locals more s t Lost h k = tt
given_up locals more s t (Operand i) h k = operand_up s t i k
given_up locals more s t (Reference i) h k = reference_up (operand s i) (operand t i) (operand_up s t i k)
given_up locals more s t (Local i) h k = reference_up (operand locals i) (operand more i) (operand_up locals more i h)
given_up locals more s t (Element i) h k = element_up (operand s i) (operand t i) (operand_up s t i k)
given_up locals more s t (Item i) h k = item_up (operand s i) (operand t i) (operand_up s t i k)

-- the same of several
pub own_all_given : (locals s : List Cell) (gs : List Given) → All IsCell locals → All IsCell s
    → All IsCell (map (given locals s) gs)
own_all_given locals s [] own_l own_s = All-nil IsCell
own_all_given locals s (g ∷ gs) own_l own_s = All-cons IsCell _ _ (own_given locals s g own_l own_s)
    (own_all_given locals s gs own_l own_s)

-- several grow with the cells
pub all_given_up : (locals more s t : List Cell) (gs : List Given) → AreBelow locals more → AreBelow s t
    → AreBelow (map (given locals s) gs) (map (given more t) gs)
all_given_up locals more s t [] h k = tt
all_given_up locals more s t (g ∷ gs) h k = (given_up locals more s t g h k, all_given_up locals more s t gs h k)

-- ---- a step of the loop over arrays

-- what the arrays from a place on hold is what those behind it do, with what the one there holds put in first
pub elements_next : (types set more : List (List ℕ)) (i : ℕ) (array given : List ℕ) → i < length types
    → array ≡ get_or types i array → given ≡ array → more ≡ with_held (held given) set
    → elements (drop (i + 1) types) more ≡ elements (drop i types) set
elements_next types set more i array given lt read same is =
    let split : drop i types ≡ array ∷ drop (i + 1) types = drop_more types i array lt
    ∙ ap (λ (n : List ℕ). n ∷ drop (i + 1) types) (sym read) in
    ap (elements (drop (i + 1) types)) (is ∙ ap (λ (n : List ℕ). with_held (held n) set) same)
    ∙ ap (λ (zs : List (List ℕ)). elements zs set) (sym split)
