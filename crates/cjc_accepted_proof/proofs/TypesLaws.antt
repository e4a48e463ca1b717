-- The card's types of types by name: a type that passes by name passes by token, and fewer names give fewer types.
use Rattle.std.proofs.Common.{◌≡◌, ◌⊎◌, ℕ, suc, ◌+◌, ◌≤◌, refl, sym, ap, subst, ◌∙◌, arith, inl, inr, ⊎_elim, Bool}
use Rattle.std.proofs.Common.{true, false}
use Rattle.std.proofs.Common.{List, [], ◌∷◌, length, Option, Some, None}
use Rattle.std.specs.Prelude.{◌&&◌, if◌then◌else◌}
use Rattle.std.specs.List.{AllZip, list_all}
use Rattle.std.specs.Str.{bytes_eq}
use Rattle.std.proofs.lemmas.Slice.Eq.{bytes_eq-Decides}
use Rattle.cjc_types.proofs.BytesLists.{name_is}
use Rattle.cjc_types.specs.Cells.{IsCellBelow, most_names}
use Rattle.std.specs.declared.cmp.Ordering.{Ordering}
use Rattle.std.specs.declared.cmp.Ordering.TheVariants.{Less, Equal, Greater}
use Rattle.cjc_types.specs.Names.{In, IsSet, IsWithin, compare, insert, placed, union}
use Rattle.cjc_types.specs.Rules.{all_types, is_reference, throwable}
use Rattle.cjc_types.specs.Working.NameLaws.{insert_cases, insert_new, insert_old, length_within, set_insert}
use Rattle.cjc_types.specs.Working.NameLaws.{set_union, union_left}
use Rattle.cjc_types.specs.declared.cell.Cell.{Cell}
use Rattle.cjc_types.specs.declared.cell.Cell.TheVariants.{Number, Refs, Unusable}
use Rattle.cjc_types.proofs.Greater.{member_passes}
use Rattle.cjc_types.specs.World.Classes.{Class}
use Rattle.cjc_types.specs.World.Lookup.{object}
use Rattle.cjc_types.specs.World.Subtype.{is_subtype}
use Rattle.cjc_frames.specs.Acts.{Subtype}
use Rattle.cjc_accepted_proof.specs.Frames.{AreFew, IsCardType, SubtypesAgree, card_cell, card_cells, its_own, thrown}
use Rattle.cjc_accepted_proof.specs.Frames.{thrown_as, types_named, with_type}

-- names of which each passes
all_in : (p : List ℕ → Bool) (xs : List (List ℕ)) → ((n : List ℕ) → In n xs → p n ≡ true) → list_all p xs ≡ true
all_in p [] h = refl
all_in p (x ∷ xs) h = ap (λ b. b && list_all p xs) (h x (inl refl)) ∙ all_in p xs (λ n i. h n (inr i))

module _ (card_type : List ℕ → Option (List ℕ)) where
  -- ---- sets with one more type

  with_cases : (o : Option (List ℕ)) (types : List (List ℕ)) (t : List ℕ) → In t (with_type o types) → (o ≡ Some t)
      ⊎ In t types
  with_cases None types t i = inr i
  with_cases (Some u) types t i = ⊎_elim (λ (same : u ≡ t). inl (ap Some same)) (λ (g : In t types). inr g)
      (insert_cases u t types i)

  with_old : (o : Option (List ℕ)) (types : List (List ℕ)) (t : List ℕ) → In t types → In t (with_type o types)
  with_old None types t i = i
  with_old (Some u) types t i = insert_old u t types i

  with_new : (o : Option (List ℕ)) (types : List (List ℕ)) (t : List ℕ) → o ≡ Some t → In t (with_type o types)
  with_new o types t e = subst (λ (v : Option (List ℕ)). In t (with_type v types)) (sym e) (insert_new t types)

  pub with_set : (o : Option (List ℕ)) (types : List (List ℕ)) → IsSet types → IsSet (with_type o types)
  with_set None types h = h
  with_set (Some t) types h = set_insert t types h

  -- ---- types of names

  thrown_is : (name : List ℕ) → name ≡ object → thrown_as card_type name ≡ card_type throwable
  thrown_is name same = ap (λ b. if b then card_type throwable else None) (ap (λ n. bytes_eq n object) same
      ∙ name_is object)

  thrown_type : (name t : List ℕ) → thrown_as card_type name ≡ Some t → IsCardType card_type name t
  thrown_type name t e = by (bytes_eq name object) refl e
    where
      by : (b : Bool) → bytes_eq name object ≡ b → (if b then card_type throwable else None) ≡ Some t
          → IsCardType card_type name t
      by true f g = thrown ((bytes_eq-Decides name object).0 f) g
      by false f g = absurd cc

  -- a type is that of one of the names
  pub type_from : (names : List (List ℕ)) (t : List ℕ) → In t (types_named card_type names) → (name : List ℕ) × In name
      names × IsCardType card_type name t
  type_from [] t h = absurd h
  type_from (name ∷ names) t h =
      let rest = types_named card_type names in
      ⊎_elim (λ (own : card_type name ≡ Some t). (name, inl refl, its_own own))
      (λ (i : In t (with_type (thrown_as card_type name) rest)). ⊎_elim
      (λ (other : thrown_as card_type name ≡ Some t). (name, inl refl, thrown_type name t other))
      (λ (g : In t rest). let r = type_from names t g in (r.0, inr r.1, r.2))
      (with_cases (thrown_as card_type name) rest t i))
      (with_cases (card_type name) (with_type (thrown_as card_type name) rest) t h)

  -- and each name with a type gives it
  pub type_in : (names : List (List ℕ)) (name t : List ℕ) → In name names → IsCardType card_type name t → In t
      (types_named card_type names)
  type_in [] name t h e = absurd h
  type_in (x ∷ names) name t (inl same) (its_own e) = with_new (card_type x) (with_type (thrown_as card_type x)
      (types_named card_type names)) t (ap card_type same ∙ e)
  type_in (x ∷ names) name t (inl same) (thrown is e) = with_old (card_type x) (with_type (thrown_as card_type x)
      (types_named card_type names)) t (with_new (thrown_as card_type x) (types_named card_type names) t (thrown_is x
      (same ∙ is) ∙ e))
  type_in (x ∷ names) name t (inr h) e = with_old (card_type x) (with_type (thrown_as card_type x) (types_named
      card_type names)) t (with_old (thrown_as card_type x) (types_named card_type names) t (type_in names name t h e))

  -- a reference of a type is one of its name
  pub own_below : (name type : List ℕ) → card_type name ≡ Some type → IsCellBelow (Refs (type ∷ [])) (card_cell card_type
      (Refs (name ∷ [])))
  own_below name type e = λ n i. by n i
    where
      by : (n : List ℕ) → In n (type ∷ []) → In n (types_named card_type (name ∷ []))
      by n (inl same) = type_in (name ∷ []) name n (inl refl) (its_own (e ∙ ap Some same))
      by n (inr none) = absurd none

  -- fewer names have fewer types
  within : (less names : List (List ℕ)) → IsWithin less names → IsWithin (types_named card_type less)
      (types_named card_type names)
  within less names h t i = let r = type_from less t i in type_in names r.0 t (h r.0 r.1) r.2

  pub cell_below : (x y : Cell) → IsCellBelow x y → IsCellBelow (card_cell card_type x) (card_cell card_type y)
  cell_below Number Number below = tt
  cell_below (Refs less) Number below = absurd below
  cell_below Unusable Number below = absurd below
  cell_below Number (Refs names) below = absurd below
  cell_below Unusable (Refs names) below = absurd below
  cell_below (Refs less) (Refs names) below = within less names below
  cell_below x Unusable below = tt

  pub cells_below : (xs ys : List Cell) → AllZip IsCellBelow xs ys → AllZip IsCellBelow (card_cells card_type xs)
      (card_cells card_type ys)
  cells_below [] [] below = tt
  cells_below [] (y ∷ ys) below = absurd below
  cells_below (x ∷ xs) [] below = absurd below
  cells_below (x ∷ xs) (y ∷ ys) below = (cell_below x y below.0, cells_below xs ys below.1)

  -- ---- types that pass

  -- types by name that pass a test have types that pass another, where it follows
  pub types_pass : (test p : List ℕ → Bool) → ((name t : List ℕ) → test name ≡ true → IsCardType card_type name t
      → p t ≡ true) → (x : Cell) → all_types test x ≡ true → all_types p (card_cell card_type x) ≡ true
  types_pass test p h Number e = absurd cc
  types_pass test p h Unusable e = absurd cc
  types_pass test p h (Refs names) e = all_in p (types_named card_type names) (λ t i. let r = type_from names t i in h
      r.0 t (member_passes test names r.0 e r.1) r.2)

  -- what is of a class by name is of its type
  pub class_passes : (is_of : Subtype) (w : List Class) → SubtypesAgree card_type is_of w → (class type : List ℕ)
      → card_type class ≡ Some type → (x : Cell) → all_types (λ name. is_subtype w name class) x ≡ true
      → all_types (λ t. is_of t type) (card_cell card_type x) ≡ true
  class_passes is_of w agree class type e x f = types_pass (λ name. is_subtype w name class) (λ t. is_of t type)
      (λ name t g h. agree name class t type g h e) x f

  pub references_stay : (x : Cell) → is_reference x ≡ true → is_reference (card_cell card_type x) ≡ true
  references_stay Number e = absurd cc
  references_stay (Refs names) e = refl
  references_stay Unusable e = absurd cc

  -- ---- sets of types

  pub shorter : (n : List ℕ) (xs : List (List ℕ)) → length (insert n xs) ≤ suc (length xs)
  shorter n [] = omega arith
  shorter n (x ∷ xs) = by (compare n x) (shorter n xs)
    where
      by : (o : Ordering) → length (insert n xs) ≤ suc (length xs)
          → length (placed o n x xs (insert n xs)) ≤ suc (suc (length xs))
      by Less h = omega arith
      by Equal h = omega arith
      by Greater h = omega (arith, h)

  -- the card's types of names are a set
  pub types_set : (names : List (List ℕ)) → IsSet (types_named card_type names)
  types_set [] = tt
  types_set (name ∷ names) = with_set (card_type name) (with_type (thrown_as card_type name) (types_named card_type
      names)) (with_set (thrown_as card_type name) (types_named card_type names) (types_set names))

  union_short : (xs ys : List (List ℕ)) → length (union xs ys) ≤ length xs + length ys
  union_short [] ys = omega arith
  union_short (x ∷ xs) ys =
      let rest = union_short xs (insert x ys) in
      let one = shorter x ys in
      omega (arith, rest, one)

  -- no more than there are types
  pub types_few : (all : List (List ℕ)) → length all ≤ most_names → ((name t : List ℕ) → card_type name ≡ Some t
      → In t all) → AreFew card_type
  types_few all le each names =
      let short = union_short all [] in
      let fewer = length_within (types_named card_type names) (union all []) (types_set names) (set_union all [] tt)
      (λ t i. let r = type_from names t i in union_left all [] t (among r.0 t r.2)) in
      omega (arith, short, fewer, le)
    where
      among : (name t : List ℕ) → IsCardType card_type name t → In t all
      among name t (its_own e) = each name t e
      among name t (thrown is e) = each throwable t e
