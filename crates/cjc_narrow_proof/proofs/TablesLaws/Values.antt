-- A cell that is a value of a type is one that a method, a field or a parameter of that type may be given.
use Rattle.std.proofs.Common.{◌≡◌, ◌⊎◌, ℕ, true, false, ◌||◌, List, [], ◌∷◌, Option, Some, None, refl, sym}
use Rattle.std.proofs.Common.{ap, subst, ◌∙◌}
use Rattle.std.specs.Prelude.{if◌then◌else◌, ◌++◌}
use Rattle.std.specs.List.{list_all}
use Rattle.cjc_bytes.specs.Descriptor.{Part}
use Rattle.cjc_bytes.specs.declared.descriptor.Kind.{Kind as PartKind}
use Rattle.cjc_bytes.specs.declared.descriptor.Kind.TheVariants as part_kinds
use Rattle.cjc_range.specs.Span.{Span, Within, IsWord, short_range, byte_range, full}
use Rattle.cjc_script.specs.Sorts.{Shape, Sort, Boolean, Byte, Short, shape_name, shape_named, sort_by, sort_of}
use Rattle.cjc_script.specs.Sorts.{reference_to, result_by}
use Rattle.cjc_world.specs.Classes.{Class}
use Rattle.cjc_world.specs.Subtype.{is_subtype}
use Rattle.cjc_types.specs.declared.cell.Cell.{Cell}
use Rattle.cjc_types.specs.declared.cell.Cell.TheVariants.{Number, Refs, Unusable}
use Rattle.cjc_types.specs.Names.{In}
use Rattle.cjc_types.specs.Types.{is_void, cell_of, result_of}
use Rattle.cjc_range.proofs.Order.{within_refl}
use Rattle.cjc_types.specs.Rules.{is_number, all_types, is_of, is_value, is_value_of, returns}
use Rattle.cjc_types.proofs.Greater.{member_passes}
use Rattle.cjc_ncode.specs.ByLabel.{Named}
use Rattle.cjc_intervals.specs.Values.{boolean_range, range_of_kind, result_ranges}
use Rattle.cjc_intervals.specs.Bounds.{IsBoundOf, a_short, a_byte, a_boolean}
use Rattle.cjc_narrow_proof.specs.Selection.Relation.{Kind, Range, Refers, Wider, more_numbers, more_types, number_free}
use Rattle.cjc_narrow_proof.specs.Selection.Relation.{reference_free, free_free, AllWider, none_wider, one_wider}
use Rattle.cjc_narrow_proof.specs.Selection.Rows.{kind_of, is_word_sort}
use Rattle.cjc_narrow_proof.specs.Selection.Cells.{MayBePut}
use Rattle.cjc_narrow_proof.specs.Selection.Cells as may
use Rattle.cjc_narrow_proof.specs.Selection.Replies.{is_of_some, result_kinds}
use Rattle.cjc_narrow_proof.specs.Tables.Kinds.{is_named, is_one_of, kind_of_cell, kinds}
use Rattle.cjc_narrow_proof.specs.Tables.Analysis.{TypesAreTold}
use Rattle.cjc_narrow_proof.proofs.TablesLaws.Told.{one_of_from}

-- ---- types

-- what has one of these names
pub record HasName (l : Named) (names : List (List ℕ)) (kind : Shape (List ℕ)) : Type 0 where
  pub name : List ℕ
  pub among : In name names
  pub shape : Shape (List ℕ)
  pub is_name : shape_named name ≡ Some shape
  pub is_of : l.is_of kind shape ≡ true

pub has_name : (l : Named) (names : List (List ℕ)) (kind : Shape (List ℕ)) → is_one_of l names kind ≡ true
    → HasName l names kind
has_name l names kind e =
    let h = one_of_from l names kind e in
    go (shape_named h.0) refl h.2
  where
    go : (o : Option (Shape (List ℕ))) → shape_named (one_of_from l names kind e).0 ≡ o
        → is_of_some l kind (shape_named (one_of_from l names kind e).0) ≡ true → HasName l names kind
    go None named is = let f : false ≡ true = sym (ap (is_of_some l kind) named) ∙ is in cc
    go (Some shape) named is = record {
      name = (one_of_from l names kind e).0;
      among = (one_of_from l names kind e).1;
      shape = shape;
      is_name = named;
      is_of = sym (ap (is_of_some l kind) named) ∙ is;
    }

module _ (w : List Class) (l : Named) (types : TypesAreTold w l) where
  -- of names that are all subtypes of a class, what has one of them is of the class
  pub passes : (class : List ℕ) (shape : Shape (List ℕ)) → shape_named class ≡ Some shape → (names : List (List ℕ))
      → list_all (λ name. is_subtype w name class) names ≡ true → (kind : Shape (List ℕ)) → is_one_of l names kind
      ≡ true → l.is_of kind shape ≡ true
  passes class shape named names all kind e =
      let h = has_name l names kind e in
      let below : is_subtype w (shape_name kind) h.name ≡ true = sym (types.tells h.name h.shape h.is_name kind)
      ∙ h.is_of in
      let above = member_passes (λ name. is_subtype w name class) names h.name all h.among in
      types.tells class shape named kind ∙ types.through (shape_name kind) h.name class below above

  -- ---- values

  reference_wider : (class : List ℕ) (cell : Cell) (s : Span) → is_of w class cell ≡ true
      → Wider (kind_of_cell l cell s) (kind_of l (reference_to (shape_named class)))
  reference_wider class Number s e = cc
  reference_wider class Unusable s e = cc
  reference_wider class (Refs names) s e = go (shape_named class) refl
    where
      go : (o : Option (Shape (List ℕ))) → shape_named class ≡ o
          → Wider (Refers (is_one_of l names)) (kind_of l (reference_to o))
      go None named = reference_free
      go (Some shape) named = more_types (passes class shape named names e)

  number_wider : (cell : Cell) (s t : Span) → is_number cell ≡ true → Within s t
      → Wider (kind_of_cell l cell s) (Range t)
  number_wider Number s t e h = more_numbers h
  number_wider (Refs names) s t e h = cc
  number_wider Unusable s t e h = cc

  -- a value of a type, in the interval that the rules ask
  pub value_wider : (p : Part) (cell : Cell) (s : Span) → is_value_of w p cell ≡ true → IsWord s
      → ((rule : ℕ) (t : Span) → IsBoundOf p rule t → Within s t)
      → Wider (kind_of_cell l cell s) (kind_of l (sort_of p))
  value_wider p cell s e own bounds = go p.kind refl e
    where
      go : (k : PartKind) → p.kind ≡ k → is_value w k p.class cell ≡ true
          → Wider (kind_of_cell l cell s) (kind_of l (sort_by k p.class))
      go part_kinds.Bool is e = number_wider cell s boolean_range e (bounds 609 boolean_range (a_boolean is))
      go part_kinds.Byte is e = number_wider cell s byte_range e (bounds 608 byte_range (a_byte is))
      go part_kinds.Short is e = number_wider cell s short_range e (bounds 607 short_range (a_short is))
      go part_kinds.Int is e = number_wider cell s full e own.within
      go part_kinds.Other is e = cc
      go part_kinds.Ref is e = reference_wider p.class cell s e
      go part_kinds.Void is e = cc

  -- what a return gives
  pub result_wider : (p : Part) (cell : Cell) (s : Span) → is_value_of w p cell ≡ true → IsWord s
      → ((rule : ℕ) (t : Span) → IsBoundOf p rule t → Within s t)
      → AllWider (kind_of_cell l cell s ∷ []) (result_kinds l (result_by p.kind p))
  result_wider p cell s e own bounds = go p.kind refl e
    where
      go : (k : PartKind) → p.kind ≡ k → is_value w k p.class cell ≡ true
          → AllWider (kind_of_cell l cell s ∷ []) (result_kinds l (result_by k p))
      go part_kinds.Bool is h = one_wider (value_wider p cell s e own bounds) none_wider
      go part_kinds.Byte is h = one_wider (value_wider p cell s e own bounds) none_wider
      go part_kinds.Short is h = one_wider (value_wider p cell s e own bounds) none_wider
      go part_kinds.Int is h = one_wider (value_wider p cell s e own bounds) none_wider
      go part_kinds.Other is h = one_wider (value_wider p cell s e own bounds) none_wider
      go part_kinds.Ref is h = one_wider (value_wider p cell s e own bounds) none_wider
      go part_kinds.Void is h = cc

-- ---- what is given

-- what a field holds or a call gives is known as its type says
pub given_wider : (l : Named) (p : Part) (rest : List Span) → is_word_sort (sort_of p) ≡ true
    → AllWider (kind_of l (sort_of p) ∷ []) (kinds l (result_of p) (result_ranges p ++ rest))
given_wider l p rest word = go p.kind word
  where
    go : (k : PartKind) → is_word_sort (sort_by k p.class) ≡ true → AllWider (kind_of l (sort_by k p.class)
        ∷ []) (kinds l (if is_void k then [] else cell_of k p.class ∷ []) ((if is_void k then [] else range_of_kind k
        ∷ []) ++ rest))
    go part_kinds.Bool word = one_wider (more_numbers (within_refl boolean_range)) none_wider
    go part_kinds.Byte word = one_wider (more_numbers (within_refl byte_range)) none_wider
    go part_kinds.Short word = one_wider (more_numbers (within_refl short_range)) none_wider
    go part_kinds.Int word = cc
    go part_kinds.Other word = cc
    go part_kinds.Ref word = by_shape (shape_named p.class) refl word
      where
        by_shape : (o : Option (Shape (List ℕ))) → shape_named p.class ≡ o → is_word_sort (reference_to o) ≡ true
            → AllWider (kind_of l (reference_to o) ∷ []) (Refers (is_one_of l (p.class ∷ [])) ∷ [])
        by_shape None named word = cc
        by_shape (Some shape) named word = one_wider (more_types (λ kind is. ap (λ o. is_of_some l kind o
            || false) named ∙ ap (λ b. b || false) is)) none_wider
    go part_kinds.Void word = cc

-- ---- what may be put

module _ (w : List Class) (l : Named) (types : TypesAreTold w l) where
  pub may_put : (p : Part) (cell : Cell) (s : Span) → is_word_sort (sort_of p) ≡ true → is_value_of w p cell ≡ true
      → ((rule : ℕ) (t : Span) → IsBoundOf p rule t → Within s t) → MayBePut l (sort_of p) (kind_of_cell l cell s)
  may_put p cell s word e bounds = go p.kind refl word e
    where
      number : (sort : Sort) (cell : Cell) → is_number cell ≡ true → MayBePut l sort (Range s)
          → MayBePut l sort (kind_of_cell l cell s)
      number sort Number e h = h
      number sort (Refs names) e h = cc
      number sort Unusable e h = cc

      reference : (o : Option (Shape (List ℕ))) → shape_named p.class ≡ o → is_word_sort (reference_to o) ≡ true
          → (cell : Cell) → is_of w p.class cell ≡ true → MayBePut l (reference_to o) (kind_of_cell l cell s)
      reference None named word cell e = cc
      reference (Some shape) named word Number e = cc
      reference (Some shape) named word Unusable e = cc
      reference (Some shape) named word (Refs names) e = may.a_reference (passes w l types p.class shape named names e)

      go : (k : PartKind) → p.kind ≡ k → is_word_sort (sort_by k p.class) ≡ true → is_value w k p.class cell ≡ true
          → MayBePut l (sort_by k p.class) (kind_of_cell l cell s)
      go part_kinds.Bool is word e = number Boolean cell e (may.a_boolean (bounds 609 boolean_range (a_boolean is)))
      go part_kinds.Byte is word e = number Byte cell e (may.a_byte (bounds 608 byte_range (a_byte is)))
      go part_kinds.Short is word e = number Short cell e (may.a_short (bounds 607 short_range (a_short is)))
      go part_kinds.Int is word e = cc
      go part_kinds.Other is word e = cc
      go part_kinds.Ref is word e = reference (shape_named p.class) refl word cell e
      go part_kinds.Void is word e = cc
