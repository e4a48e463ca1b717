-- Each instruction in int mode that names a field, a static field, a class or a type has a row.
use Rattle.std.proofs.Common.{◌≡◌, ◌⊎◌, inl, inr, ◌||◌, ℕ, Bool, true, false, List, [], ◌∷◌, ◌++◌, length, drop}
use Rattle.std.proofs.Common.{Option, Some, None, refl, sym, ap, subst, ◌∙◌, arith, ℤ}
use Rattle.cjc_bytes.specs.Descriptor.{Part}
use Rattle.cjc_bytes.specs.Spots.{desc_of, parts_of, bad_at, after, types_from}
use Rattle.cjc_bytes.specs.declared.fault.MemberId.{MemberId}
use Rattle.cjc_bytes.specs.declared.descriptor.Kind.{Kind as PartKind}
use Rattle.cjc_bytes.specs.declared.descriptor.Kind.TheVariants as part_kinds
use Rattle.cjc_range.specs.Span.{Span, Holds, Within, short_range, full}
use Rattle.cjc_range.proofs.Order.{within_refl}
use Rattle.cjc_code.specs.declared.insn.JOp.{JOp}
use Rattle.cjc_code.specs.declared.insn.JOp.TheVariants as jop
use Rattle.cjc_script.specs.Sorts.{Shape, OfClass, OfNumbers, OfReferences, Element, Booleans, Bytes, Shorts, Ints}
use Rattle.cjc_script.specs.Sorts.{Sort, Boolean, Byte, Short, Int, Reference, NoValue, array_name, shape_name}
use Rattle.cjc_script.specs.Sorts.{shape_named, sort_of, sort_by, reference_to, field_sort}
use Rattle.cjc_world.specs.Classes.{Class}
use Rattle.cjc_world.specs.Subtype.{is_subtype}
use Rattle.cjc_types.specs.Fixpoint.Tables.{HasRow}
use Rattle.cjc_types.specs.declared.cell.Cell.{Cell}
use Rattle.cjc_types.specs.declared.cell.Cell.TheVariants.{Number, Refs, Unusable}
use Rattle.cjc_types.specs.Rules.{is_number, is_value, is_value_of}
use Rattle.cjc_types.specs.Steps as typed
use Rattle.cjc_types.specs.Types.{parts, letter, result_of, array_of}
use Rattle.cjc_intervals.specs.Frames.{RangeState, spans_of}
use Rattle.cjc_intervals.specs.Values.{exactly, result_ranges}
use Rattle.cjc_intervals.specs.Steps.{operand, field_range}
use Rattle.cjc_intervals.specs.Bounds.{IsBoundOf, a_short, a_byte, a_boolean, a_static_field, a_count}
use Rattle.cjc_intervals.specs.Bounds.{a_field as a_field_bound, a_reference_count}
use Rattle.cjc_ncode.specs.ByLabel.{Named}
use Rattle.cjc_ncode.specs.Written.{Resolution}
use Rattle.cjc_jvm_semantics.specs.Linked.{Method, Linked}
use Rattle.cjc_narrow_proof.specs.Selection.Cells.{IsConstant}
use Rattle.cjc_narrow_proof.specs.Selection.Objects.{IsMade, IsClassThere, IsTypeThere}
use Rattle.cjc_narrow_proof.specs.Selection.Relation.{Kind, Range, Refers, boolean_range, AllWider, one_wider}
use Rattle.cjc_narrow_proof.specs.Selection.Relation.{none_wider, more_numbers}
use Rattle.cjc_narrow_proof.specs.Selection.Replies.{is_of_some}
use Rattle.cjc_narrow_proof.specs.Selection.Rows.{kind_of, is_word_sort}
use Rattle.cjc_narrow_proof.specs.Tables.Analysis.{Found, IsDecoded, TypesAreTold}
use Rattle.cjc_narrow_proof.specs.Tables.Kinds.{is_one_of, kind_of_cell, kinds}
use Rattle.cjc_narrow_proof.specs.Tables.Names.{IsDesc}
use Rattle.cjc_narrow_proof.proofs.SelectionLaws.Stores.{holds_itself}
use Rattle.cjc_narrow_proof.proofs.TablesLaws.Plain.{exactly_is}
use Rattle.cjc_narrow_proof.proofs.TablesLaws.Resolved.{of_reference, same_long, sort_is}
use Rattle.cjc_narrow_proof.proofs.TablesLaws.Values.{given_wider, may_put}
use Rattle.cjc_int_mode.specs.declared.modes.Mode.TheVariants as modes
use Rattle.cjc_int_mode.specs.Modes.{binds}
use Rattle.cjc_int_runs.specs.Fields.{has_values, IntFieldIsThere, IntCellIsThere, MayBePutInt, in_one_word}
use Rattle.cjc_int_runs.specs.Fields.{an_int_put}
use Rattle.cjc_int_runs.specs.Rows as rows
use Rattle.cjc_int_alike.specs.Method.{IsIntSound}
use Rattle.cjc_int_alike.specs.Names.{IsIntResolved}
use Rattle.cjc_int_alike.specs.Names as named_here
use Rattle.cjc_int_alike.specs.Steps.{has_row}
use Rattle.cjc_int_alike.proofs.Plain.{Stands, IsRow, Step, Row, typed_here, within, number_at, reference_at}
use Rattle.cjc_int_alike.proofs.Plain.{one_number, one_reference, taken_one, taken_two, a_row}

-- ---- types

-- a type of some values has one word, or it is int
pub words_or_int : (sort : Sort) → has_values sort ≡ true → (is_word_sort sort ≡ true) ⊎ (sort ≡ Int)
words_or_int Boolean e = inl refl
words_or_int Byte e = inl refl
words_or_int Short e = inl refl
words_or_int Int e = inr refl
words_or_int (Reference kind) e = inl refl
words_or_int NoValue e = cc

pub kind_is_int : (p : Part) → sort_of p ≡ Int → p.kind ≡ part_kinds.Int
kind_is_int p e = go p.kind e
  where
    by_shape : (o : Option (Shape (List ℕ))) → reference_to o ≡ Int → part_kinds.Ref ≡ part_kinds.Int
    by_shape None e = cc
    by_shape (Some shape) e = cc

    go : (k : PartKind) → sort_by k p.class ≡ Int → k ≡ part_kinds.Int
    go part_kinds.Bool e = cc
    go part_kinds.Byte e = cc
    go part_kinds.Short e = cc
    go part_kinds.Int e = refl
    go part_kinds.Other e = cc
    go part_kinds.Ref e = by_shape (shape_named p.class) e
    go part_kinds.Void e = cc

-- what a field holds or a call gives is known as its type says
pub given_as_typed : (l : Named) (p : Part) (rest : List Span) → has_values (sort_of p) ≡ true
    → AllWider (kind_of l (sort_of p) ∷ []) (kinds l (result_of p) (result_ranges p ++ rest))
given_as_typed l p rest some = go (words_or_int (sort_of p) some)
  where
    go : ((is_word_sort (sort_of p) ≡ true) ⊎ (sort_of p ≡ Int))
        → AllWider (kind_of l (sort_of p) ∷ []) (kinds l (result_of p) (result_ranges p ++ rest))
    go (inl word) = given_wider l p rest word
    go (inr is) = subst (λ k. AllWider (kind_of l (sort_by k p.class) ∷ []) (kinds l (result_of (record p { kind = k }))
        (result_ranges (record p { kind = k }) ++ rest))) (sym (kind_is_int p is))
        (one_wider (more_numbers (within_refl full)) none_wider)

-- the rules on values bind every method
pub bound_binds : {p : Part} {rule : ℕ} {s : Span} → IsBoundOf p rule s → binds modes.Int rule ≡ true
bound_binds (a_short e) = refl
bound_binds (a_byte e) = refl
bound_binds (a_boolean e) = refl

module _ (w : List Class) (l : Named) (types : TypesAreTold w l) where
  may_put_int : (p : Part) (cell : Cell) (s : Span) → has_values (sort_of p) ≡ true → is_value_of w p cell ≡ true
      → ((rule : ℕ) (u : Span) → IsBoundOf p rule u → Within s u) → MayBePutInt l (sort_of p) (kind_of_cell l cell s)
  may_put_int p cell s some e bounds = go (words_or_int (sort_of p) some)
    where
      an_int : (c : Cell) → is_number c ≡ true → MayBePutInt l Int (kind_of_cell l c s)
      an_int Number e = an_int_put
      an_int (Refs names) e = cc
      an_int Unusable e = cc

      go : ((is_word_sort (sort_of p) ≡ true) ⊎ (sort_of p ≡ Int))
          → MayBePutInt l (sort_of p) (kind_of_cell l cell s)
      go (inl word) = in_one_word (may_put w l types p cell s word e bounds)
      go (inr is) = subst (λ sort. MayBePutInt l sort (kind_of_cell l cell s)) (sym is)
          (an_int cell (subst (λ k. is_value w k p.class cell ≡ true) (kind_is_int p is) e))

booleans_named : shape_named (91 ∷ letter 4 ∷ []) ≡ Some (OfNumbers Booleans)
unfolding desc_of parts_of bad_at after types_from
booleans_named = refl

bytes_named : shape_named (91 ∷ letter 8 ∷ []) ≡ Some (OfNumbers Bytes)
unfolding desc_of parts_of bad_at after types_from
bytes_named = refl

shorts_named : shape_named (91 ∷ letter 9 ∷ []) ≡ Some (OfNumbers Shorts)
unfolding desc_of parts_of bad_at after types_from
shorts_named = refl

ints_named : shape_named (91 ∷ letter 10 ∷ []) ≡ Some (OfNumbers Ints)
unfolding desc_of parts_of bad_at after types_from
ints_named = refl

one_named : (l : Named) (name : List ℕ) (shape : Shape (List ℕ)) → shape_named name ≡ Some shape
    → (kind : Shape (List ℕ)) → l.is_of kind shape ≡ true → is_one_of l (name ∷ []) kind ≡ true
one_named l name shape named kind e = ap (λ o. is_of_some l kind o || false) named ∙ ap (λ b. b || false) e

-- ---- the instructions

module _ (by : Linked) (l : Named) (w : List Class) (r : Resolution) (f : Found) (m : Method)
    (decoded : IsDecoded f.body) (sound : IsIntSound w r.constant f) (types : TypesAreTold w l) (at offset : ℕ)
    (cells local_cells : List Cell) (x : RangeState) (ranged : HasRow f.ranges at x)
    (row : IsRow by l w r f m decoded sound at offset cells local_cells x ranged) where
  abbrev StepHere : JOp → Type 0
  StepHere op = Step by l w r f m decoded sound at offset cells local_cells x ranged op

  abbrev StandsHere : JOp → Type 0
  StandsHere op = Stands by l w r f m decoded sound at offset cells local_cells x ranged op

  abbrev RowHere : JOp → (taken left ls js : List Kind) → Type 0
  RowHere op taken left ls js = Row by l w r f m decoded sound at offset cells local_cells x ranged op taken left ls js

  abbrev locals : List Kind
  locals = kinds l local_cells x.locals

  abbrev top : Kind
  top = kind_of_cell l (typed.operand cells 0) (operand (spans_of x.stack) 0)

  get_field : (named : MemberId) → StandsHere (jop.Field false named) → IsDesc named.desc → ((names : List (List ℕ))
      → typed.operand cells 0 ≡ Refs names → IntFieldIsThere by l r m named (is_one_of l names))
      → StepHere (jop.Field false named)
  get_field named there desc field =
      let op = jop.Field false named in
      let p = (parts named.desc).result in
      let h = typed_here by l w r f m decoded sound at offset cells local_cells x ranged row op there in
      let is = of_reference w named.class (typed.operand cells 0) (h.operands 0 (omega arith)) in
      let one = field is.0 is.1 in
      let sort = sort_is named.desc desc in
      has_row refl (λ e. cc) (same_long p) (kind_of l (field_sort named.desc) ∷ [])
      (subst (λ s. AllWider (kind_of l s ∷ []) (kinds l (result_of p) (result_ranges p ++ drop 1 (spans_of x.stack))))
      (sym sort) (given_as_typed l p (drop 1 (spans_of x.stack)) (ap has_values (sym sort) ∙ one.some_value)))
      (subst (λ ks. RowHere op ks (kind_of l (field_sort named.desc) ∷ []) locals locals)
      (one_reference by l w r f m decoded sound at offset cells local_cells x ranged row op there refl is.0 is.1)
      (rows.getfield_row _ locals named (is_one_of l is.0) one))

  put_field : (named : MemberId) → StandsHere (jop.Field true named) → IsDesc named.desc → ((names : List (List ℕ))
      → typed.operand cells 1 ≡ Refs names → IntFieldIsThere by l r m named (is_one_of l names))
      → StepHere (jop.Field true named)
  put_field named there desc field =
      let op = jop.Field true named in
      let p = (parts named.desc).result in
      let h = typed_here by l w r f m decoded sound at offset cells local_cells x ranged row op there in
      let is = of_reference w named.class (typed.operand cells 1) (h.operands 1 (omega arith)) in
      let one = field is.0 is.1 in
      let sort = sort_is named.desc desc in
      let put = may_put_int w l types p (typed.operand cells 0) (operand (spans_of x.stack) 0) (ap has_values (sym sort)
      ∙ one.some_value) (h.operands 0 (omega arith)) (λ rule s bound. within by l w r f m decoded sound at offset cells
      local_cells x ranged row op there rule 0 s (bound_binds bound) (a_field_bound bound)) in
      a_row by l w r f m decoded sound at offset cells local_cells x ranged row op refl (λ e. cc) refl
      (subst (λ ks. RowHere op ks [] locals locals) (taken_two by l w r f m decoded sound at offset cells local_cells x
      ranged row op there refl)
      (subst (λ c. RowHere op (top ∷ kind_of_cell l c (operand (spans_of x.stack) 1) ∷ []) [] locals locals) (sym is.1)
      (rows.putfield_row _ locals named top (is_one_of l is.0) one (subst (λ s. MayBePutInt l s top) (sym sort) put))))

  get_static : (named : MemberId) → StandsHere (jop.Static false named) → IsDesc named.desc
      → IntCellIsThere by l r m named → StepHere (jop.Static false named)
  get_static named there desc field =
      let p = (parts named.desc).result in
      let none = field.is_no_constant in
      let sort = sort_is named.desc desc in
      has_row refl (λ e. cc) (same_long p ∙ ap (λ o. length (field_range o p)) (sym none))
      (kind_of l (field_sort named.desc) ∷ [])
      (subst (λ o. AllWider (kind_of l (field_sort named.desc) ∷ []) (kinds l (result_of p) (field_range o p
      ++ spans_of x.stack))) (sym none)
      (subst (λ s. AllWider (kind_of l s ∷ []) (kinds l (result_of p) (result_ranges p ++ spans_of x.stack))) (sym sort)
      (given_as_typed l p (spans_of x.stack) (ap has_values (sym sort) ∙ field.some_value))))
      (rows.cell_row _ locals named field)

  get_constant : (named : MemberId) (z : ℤ) → StandsHere (jop.Static false named) → result_of (parts named.desc).result
      ≡ Number ∷ [] → Holds full z → IsConstant by r m named z → StepHere (jop.Static false named)
  get_constant named z there number fits is =
      let op = jop.Static false named in
      let p = (parts named.desc).result in
      let constant = is.narrow in
      a_row by l w r f m decoded sound at offset cells local_cells x ranged row op refl (λ e. cc)
      (ap length number ∙ ap (λ o. length (field_range o p)) (sym constant))
      (subst (λ cs. RowHere op [] (kinds l cs (field_range (r.constant named) p ++ spans_of x.stack)) locals locals)
      (sym number)
      (subst (λ o. RowHere op [] (kinds l (Number ∷ []) (field_range o p ++ spans_of x.stack)) locals locals)
      (sym constant)
      (rows.constant_row _ locals named z (exactly z) is fits (subst (λ s. Holds s z) (sym (exactly_is z fits))
      (holds_itself z)))))

  put_static : (named : MemberId) → StandsHere (jop.Static true named) → IsDesc named.desc
      → IntCellIsThere by l r m named → StepHere (jop.Static true named)
  put_static named there desc field =
      let op = jop.Static true named in
      let p = (parts named.desc).result in
      let sort = sort_is named.desc desc in
      let h = typed_here by l w r f m decoded sound at offset cells local_cells x ranged row op there in
      let put = may_put_int w l types p (typed.operand cells 0) (operand (spans_of x.stack) 0) (ap has_values (sym sort)
      ∙ field.some_value) (h.operands 0 (omega arith)) (λ rule s bound. within by l w r f m decoded sound at offset
      cells local_cells x ranged row op there rule 0 s (bound_binds bound) (a_static_field bound)) in
      a_row by l w r f m decoded sound at offset cells local_cells x ranged row op refl (λ e. cc) refl
      (subst (λ ks. RowHere op ks [] locals locals) (taken_one by l w r f m decoded sound at offset cells local_cells x
      ranged row op there refl)
      (rows.putstatic_row _ locals named top field (subst (λ s. MayBePutInt l s top) (sym sort) put)))

  make_object : (class : List ℕ) → StandsHere (jop.New class) → IsMade by l m class
      → shape_named class ≡ Some (OfClass class) → StepHere (jop.New class)
  make_object class there made named =
      a_row by l w r f m decoded sound at offset cells local_cells x ranged row (jop.New class) refl (λ e. cc) refl
      (rows.new_row _ locals (is_one_of l (class ∷ [])) class made (one_named l class (OfClass class) named
      (OfClass class) (types.tells class (OfClass class) named (OfClass class) ∙ types.itself class)))

  make_array : (class : List ℕ) → StandsHere (jop.ANewArray class) → IsClassThere by l m class
      → shape_named (array_of class) ≡ Some (OfReferences class) → shape_name (OfReferences class) ≡ array_of class
      → StepHere (jop.ANewArray class)
  make_array class there is named spelt =
      let op = jop.ANewArray class in
      let number = number_at by l w r f m decoded sound at offset cells local_cells x ranged row op there 0 (omega
      arith)
      (λ c. refl) in
      a_row by l w r f m decoded sound at offset cells local_cells x ranged row op refl (λ e. cc) refl
      (subst (λ ks. RowHere op ks (Refers (is_one_of l (array_of class ∷ [])) ∷ []) locals locals)
      (one_number by l w r f m decoded sound at offset cells local_cells x ranged row op there refl number)
      (rows.anewarray_row _ locals (is_one_of l (array_of class ∷ [])) (operand (spans_of x.stack) 0)
      (within by l w r f m decoded sound at offset cells local_cells x ranged row op there 605 0 short_range refl
      a_reference_count) class is
      (one_named l (array_of class) (OfReferences class) named (OfReferences class) (types.tells (array_of class)
      (OfReferences class) named (OfReferences class) ∙ ap (λ n. is_subtype w n (array_of class)) spelt
      ∙ types.itself (array_of class)))))

  make_numbers : (number : ℕ) (element : Element) → StandsHere (jop.NewArray number)
      → shape_named (91 ∷ letter number ∷ []) ≡ Some (OfNumbers element) → array_name element ≡ 91 ∷ letter number ∷ []
      → ((within : Shape (List ℕ) → Bool) → within (OfNumbers element) ≡ true
      → Within (operand (spans_of x.stack) 0) short_range → RowHere (jop.NewArray number)
      (Range (operand (spans_of x.stack) 0) ∷ []) (Refers within ∷ []) locals locals) → StepHere (jop.NewArray number)
  make_numbers number element there named spelt has =
      let op = jop.NewArray number in
      let name = 91 ∷ letter number ∷ [] in
      let count = number_at by l w r f m decoded sound at offset cells local_cells x ranged row op there 0 (omega arith)
      (λ c. refl) in
      a_row by l w r f m decoded sound at offset cells local_cells x ranged row op refl (λ e. cc) refl
      (subst (λ ks. RowHere op ks (Refers (is_one_of l (name ∷ [])) ∷ []) locals locals)
      (one_number by l w r f m decoded sound at offset cells local_cells x ranged row op there refl count)
      (has (is_one_of l (name ∷ [])) (one_named l name (OfNumbers element) named (OfNumbers element)
      (types.tells name (OfNumbers element) named (OfNumbers element) ∙ ap (λ n. is_subtype w n name) spelt
      ∙ types.itself name))
      (within by l w r f m decoded sound at offset cells local_cells x ranged row op there 605 0 short_range refl
      a_count)))

  cast : (type : List ℕ) → StandsHere (jop.CheckCast type) → IsTypeThere by l m type → StepHere (jop.CheckCast type)
  cast type there is =
      let op = jop.CheckCast type in
      let on = reference_at by l w r f m decoded sound at offset cells local_cells x ranged row op there 0 (omega arith)
      (λ c. refl) in
      a_row by l w r f m decoded sound at offset cells local_cells x ranged row op refl (λ e. cc) refl
      (subst (λ ks. RowHere op ks (Refers (is_one_of l (type ∷ [])) ∷ []) locals locals)
      (one_reference by l w r f m decoded sound at offset cells local_cells x ranged row op there refl on.0 on.1)
      (rows.checkcast_row _ locals type is (is_one_of l on.0) (is_one_of l (type ∷ [])) (λ kind p e. one_named l type
      is.kind is.is_name kind e)))

  test : (type : List ℕ) → StandsHere (jop.InstanceOf type) → IsTypeThere by l m type → StepHere (jop.InstanceOf type)
  test type there is =
      let op = jop.InstanceOf type in
      let on = reference_at by l w r f m decoded sound at offset cells local_cells x ranged row op there 0 (omega arith)
      (λ c. refl) in
      a_row by l w r f m decoded sound at offset cells local_cells x ranged row op refl (λ e. cc) refl
      (subst (λ ks. RowHere op ks (Range boolean_range ∷ []) locals locals) (one_reference by l w r f m decoded sound at
      offset cells local_cells x ranged row op there refl on.0 on.1)
      (rows.instanceof_row _ locals type is (is_one_of l on.0)))

  pub resolved_step : (op : JOp) → IsIntResolved by l r m cells op → StandsHere op → StepHere op
  resolved_step _ (named_here.a_field {named = named} desc field) there = get_field named there desc field
  resolved_step _ (named_here.a_put_field {named = named} desc field) there = put_field named there desc field
  resolved_step _ (named_here.a_static {named = named} desc field) there = get_static named there desc field
  resolved_step _ (named_here.a_put_static {named = named} desc field) there = put_static named there desc field
  resolved_step _ (named_here.a_constant {named = named} {z = z} number fits is) there =
      get_constant named z there number fits is
  resolved_step _ (named_here.a_class {class = class} made named) there = make_object class there made named
  resolved_step _ (named_here.an_array {class = class} is named spelt) there = make_array class there is named spelt
  resolved_step _ named_here.booleans there = make_numbers 4 Booleans there booleans_named refl (λ within passes small.
      rows.booleans_row _ locals within (operand (spans_of x.stack) 0) small passes)
  resolved_step _ named_here.bytes there = make_numbers 8 Bytes there bytes_named refl (λ within passes small.
      rows.bytes_row _ locals within (operand (spans_of x.stack) 0) small passes)
  resolved_step _ named_here.shorts there = make_numbers 9 Shorts there shorts_named refl (λ within passes small.
      rows.shorts_row _ locals within (operand (spans_of x.stack) 0) small passes)
  resolved_step _ named_here.ints there = make_numbers 10 Ints there ints_named refl (λ within passes small.
      rows.ints_row _ locals within (operand (spans_of x.stack) 0) small passes)
  resolved_step _ (named_here.a_cast {type = type} is) there = cast type there is
  resolved_step _ (named_here.a_test {type = type} is) there = test type there is
