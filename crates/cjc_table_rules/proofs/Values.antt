-- A cell that is a value of a type is one that a method, a field or a parameter of that type may be given.
use Rattle.std.proofs.Common.{◌≡◌, ◌⊎◌, ℕ, Bool, true, false, ◌&&◌, ◌||◌, List, [], ◌∷◌, Option, Some, None, refl, sym, ap, subst, ◌∙◌, inl, inr}
use Rattle.std.specs.List.{list_all}
use Rattle.cjc_bytes.specs.Descriptor.{Part}
use Rattle.cjc_bytes.specs.declared.names.Kind.{Kind as PartKind}
use Rattle.cjc_bytes.specs.declared.names.Kind.TheVariants as kinds
use Rattle.cjc_range.specs.Span.{Span, Within, IsWord, short_range, byte_range, full}
use Rattle.cjc_script.specs.Sorts.{Shape, Sort, shape_name, shape_named, sort_by, sort_of, reference_to, result_by}
use Rattle.cjc_world.specs.Classes.{Class}
use Rattle.cjc_world.specs.Subtype.{is_subtype}
use Rattle.cjc_types.specs.declared.cell.Cell.{Cell}
use Rattle.cjc_types.specs.declared.cell.Cell.TheVariants.{Number, Refs, Unusable}
use Rattle.cjc_types.specs.Names.{In}
use Rattle.cjc_types.specs.Rules.{is_number, all_types, is_of, is_value, is_value_of, returns}
use Rattle.cjc_ncode.specs.ByLabel.{Named}
use Rattle.cjc_range_flow.specs.Values.{boolean_range}
use Rattle.cjc_range_flow.specs.Bounds.{IsBoundOf, a_short, a_byte, a_boolean}
use Rattle.cjc_shrink.specs.Relation.{Kind, Range, Refers, Wider, more_numbers, more_types, number_free, reference_free, free_free, AllWider, none_wider, one_wider}
use Rattle.cjc_shrink.specs.Rows.{kind_of}
use Rattle.cjc_shrink.specs.Replies.{is_of_some, result_kinds}
use Rattle.cjc_table_rules.specs.Kinds.{is_named, is_one_of, kind_of_cell}
use Rattle.cjc_table_rules.specs.Analysis.{TypesAreTold}
use Rattle.cjc_table_rules.proofs.Told.{one_of_from}

-- ---- types

pub all_in : (p : List ℕ → Bool) (names : List (List ℕ)) (n : List ℕ) → list_all p names ≡ true → In n names → p n ≡ true
all_in p [] n e h = absurd h
all_in p (x ∷ names) n e (inl same) = ap p (sym same) ∙ first (p x) (list_all p names) e
  where
    first : (a b : Bool) → (a && b) ≡ true → a ≡ true
    first true b e = refl
    first false b e = cc
all_in p (x ∷ names) n e (inr later) = all_in p names n (rest (p x) (list_all p names) e) later
  where
    rest : (a b : Bool) → (a && b) ≡ true → b ≡ true
    rest true b e = e
    rest false b e = cc

-- what has one of these names
pub record HasName (l : Named) (names : List (List ℕ)) (kind : Shape (List ℕ)) : Type 0 where
  pub name : List ℕ
  pub among : In name names
  pub shape : Shape (List ℕ)
  pub is_name : shape_named name ≡ Some shape
  pub is_of : l.is_of kind shape ≡ true

pub has_name : (l : Named) (names : List (List ℕ)) (kind : Shape (List ℕ)) → is_one_of l names kind ≡ true → HasName l names kind
has_name l names kind e =
    let h = one_of_from l names kind e in
    go (shape_named h.0) refl h.2
  where
    go : (o : Option (Shape (List ℕ))) → shape_named (one_of_from l names kind e).0 ≡ o → is_of_some l kind (shape_named (one_of_from l names kind e).0) ≡ true → HasName l names kind
    go None named is = let f : false ≡ true = sym (ap (is_of_some l kind) named) ∙ is in cc
    go (Some shape) named is = record { name = (one_of_from l names kind e).0; among = (one_of_from l names kind e).1; shape = shape; is_name = named; is_of = sym (ap (is_of_some l kind) named) ∙ is }

module _ (w : List Class) (l : Named) (types : TypesAreTold w l) where
  -- of names that are all subtypes of a class, what has one of them is of the class
  pub passes : (class : List ℕ) (shape : Shape (List ℕ)) → shape_named class ≡ Some shape → (names : List (List ℕ)) → list_all (λ name. is_subtype w name class) names ≡ true → (kind : Shape (List ℕ)) → is_one_of l names kind ≡ true → l.is_of kind shape ≡ true
  passes class shape named names all kind e =
      let h = has_name l names kind e in
      let below : is_subtype w (shape_name kind) h.name ≡ true = sym (types.tells h.name h.shape h.is_name kind) ∙ h.is_of in
      let above = all_in (λ name. is_subtype w name class) names h.name all h.among in
      types.tells class shape named kind ∙ types.through (shape_name kind) h.name class below above

  -- ---- values

  reference_wider : (class : List ℕ) (cell : Cell) (s : Span) → is_of w class cell ≡ true → Wider (kind_of_cell l cell s) (kind_of l (reference_to (shape_named class)))
  reference_wider class Number s e = cc
  reference_wider class Unusable s e = cc
  reference_wider class (Refs names) s e = go (shape_named class) refl
    where
      go : (o : Option (Shape (List ℕ))) → shape_named class ≡ o → Wider (Refers (is_one_of l names)) (kind_of l (reference_to o))
      go None named = reference_free
      go (Some shape) named = more_types (passes class shape named names e)

  number_wider : (cell : Cell) (s t : Span) → is_number cell ≡ true → Within s t → Wider (kind_of_cell l cell s) (Range t)
  number_wider Number s t e h = more_numbers h
  number_wider (Refs names) s t e h = cc
  number_wider Unusable s t e h = cc

  -- a value of a type, in the interval that the rules ask
  pub value_wider : (p : Part) (cell : Cell) (s : Span) → is_value_of w p cell ≡ true → IsWord s → ((rule : ℕ) (t : Span) → IsBoundOf p rule t → Within s t) → Wider (kind_of_cell l cell s) (kind_of l (sort_of p))
  value_wider p cell s e own bounds = go p.kind refl e
    where
      go : (k : PartKind) → p.kind ≡ k → is_value w k p.class cell ≡ true → Wider (kind_of_cell l cell s) (kind_of l (sort_by k p.class))
      go kinds.Bool is e = number_wider cell s boolean_range e (bounds 609 boolean_range (a_boolean is))
      go kinds.Byte is e = number_wider cell s byte_range e (bounds 608 byte_range (a_byte is))
      go kinds.Short is e = number_wider cell s short_range e (bounds 607 short_range (a_short is))
      go kinds.Int is e = number_wider cell s full e own.within
      go kinds.Other is e = cc
      go kinds.Ref is e = reference_wider p.class cell s e
      go kinds.Void is e = cc

  -- what a return gives
  pub result_wider : (p : Part) (cell : Cell) (s : Span) → is_value_of w p cell ≡ true → IsWord s → ((rule : ℕ) (t : Span) → IsBoundOf p rule t → Within s t) → AllWider (kind_of_cell l cell s ∷ []) (result_kinds l (result_by p.kind p))
  result_wider p cell s e own bounds = go p.kind refl e
    where
      go : (k : PartKind) → p.kind ≡ k → is_value w k p.class cell ≡ true → AllWider (kind_of_cell l cell s ∷ []) (result_kinds l (result_by k p))
      go kinds.Bool is h = one_wider (value_wider p cell s e own bounds) none_wider
      go kinds.Byte is h = one_wider (value_wider p cell s e own bounds) none_wider
      go kinds.Short is h = one_wider (value_wider p cell s e own bounds) none_wider
      go kinds.Int is h = one_wider (value_wider p cell s e own bounds) none_wider
      go kinds.Other is h = one_wider (value_wider p cell s e own bounds) none_wider
      go kinds.Ref is h = one_wider (value_wider p cell s e own bounds) none_wider
      go kinds.Void is h = cc
