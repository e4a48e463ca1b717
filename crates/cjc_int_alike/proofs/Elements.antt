-- Each instruction on arrays in int mode has a row: an index that the tables do not find inside has its guard.
use Rattle.std.proofs.Common.{◌≡◌, ℕ, Bool, true, false, ◌&&◌, List, [], ◌∷◌, map, take, drop, refl, sym, ap, subst}
use Rattle.std.proofs.Common.{◌∙◌, arith}
use Rattle.std.specs.List.{list_all}
use Rattle.cjc_bytes.proofs.Lists.{bytes_true}
use Rattle.cjc_range.specs.Span.{Span, short_range, full}
use Rattle.cjc_range.proofs.Order.{within_refl}
use Rattle.cjc_code.specs.declared.insn.JOp.{JOp}
use Rattle.cjc_code.specs.declared.insn.JOp.TheVariants as jop
use Rattle.cjc_script.specs.Sorts.{Shape, OfClass, OfNumbers, OfReferences, Element, Booleans, Bytes, Shorts, Ints}
use Rattle.cjc_script.specs.Sorts.{array_name, shape_name}
use Rattle.cjc_world.specs.Classes.{Class}
use Rattle.cjc_world.specs.Subtype.{starts, is_element, is_subtype}
use Rattle.cjc_types.specs.declared.cell.Cell.{Cell}
use Rattle.cjc_types.specs.declared.cell.Cell.TheVariants.{Number, Refs}
use Rattle.cjc_types.specs.Rules.{is_array_by, is_array_for, is_reference}
use Rattle.cjc_types.specs.Steps as typed
use Rattle.cjc_types.specs.Types.{elements, element_of}
use Rattle.cjc_types.proofs.Greater.{member_passes}
use Rattle.cjc_intervals.specs.Frames.{RangeState, spans_of}
use Rattle.cjc_intervals.specs.Values.{boolean_range, length_range, byte_element_range, element_range}
use Rattle.cjc_intervals.specs.Steps.{operand}
use Rattle.cjc_intervals.specs.Bounds.{index_range, may_hold_booleans, a_boolean_element}
use Rattle.cjc_types.specs.Fixpoint.Tables.{HasRow}
use Rattle.cjc_ncode.specs.ByLabel.{Named}
use Rattle.cjc_ncode.specs.Written.{Resolution}
use Rattle.cjc_jvm_semantics.specs.Linked.{Method, Linked}
use Rattle.cjc_narrow_proof.specs.Selection.Elements.{AreAll}
use Rattle.cjc_narrow_proof.specs.Selection.Relation.{Kind, Range, Refers, AllWider, none_wider, one_wider, IsMadeOf}
use Rattle.cjc_narrow_proof.specs.Tables.Analysis.{Found, IsDecoded, TypesAreTold}
use Rattle.cjc_narrow_proof.specs.Tables.Arrays.{ClassesAreNamed}
use Rattle.cjc_narrow_proof.specs.Tables.Arrays as on
use Rattle.cjc_narrow_proof.specs.Tables.Kinds.{is_one_of, kind_of_cell, kinds}
use Rattle.cjc_narrow_proof.proofs.TablesLaws.Arrays.{of_types, arrays_only, bytes_only, shorts_only, references_only}
use Rattle.cjc_narrow_proof.proofs.TablesLaws.Arrays.{items_pass, byte_elements, short_elements, may_be_booleans}
use Rattle.cjc_narrow_proof.proofs.TablesLaws.Arrays.{refs_wider}
use Rattle.cjc_narrow_proof.proofs.TablesLaws.Plain.{number_is, reference_is}
use Rattle.cjc_narrow_proof.proofs.TablesLaws.Values.{has_name}
use Rattle.cjc_int_mode.specs.Written.{int_frame}
use Rattle.cjc_int_runs.specs.Elements.{IsInts, ints_of}
use Rattle.cjc_int_runs.specs.Rows.{IsIntRow}
use Rattle.cjc_int_runs.specs.Rows as rows
use Rattle.cjc_int_runs.specs.Steps.{known}
use Rattle.cjc_int_alike.specs.Method.{IsIntSound, IntCatchesAreTold}
use Rattle.cjc_int_alike.specs.Names.{IsOnIntArray, as_outside, iaload, iastore}
use Rattle.cjc_int_alike.specs.Steps.{has_row}
use Rattle.cjc_int_alike.proofs.Cells.{lies_within}
use Rattle.cjc_int_alike.proofs.Plain.{Stands, IsRow, Step, Row, inside, typed_here, within, a_row, on_known}
use Rattle.cjc_int_alike.proofs.Plain.{one_reference, taken_two, taken_three}

-- ---- arrays of ints

module _ (w : List Class) where
  -- what is of an array of ints is one
  numbers_of_ints : (a : Element) → is_subtype w (array_name a) (array_name Ints) ≡ true
      → ◌≡◌ {A = Shape (List ℕ)} (OfNumbers a) (OfNumbers Ints)
  unfolding is_subtype is_element
  numbers_of_ints Booleans e = cc
  numbers_of_ints Bytes e = cc
  numbers_of_ints Shorts e = cc
  numbers_of_ints Ints e = refl

  no_references_of_ints : (class : List ℕ) → is_subtype w (shape_name (OfReferences class)) (array_name Ints) ≡ true → ⊥
  unfolding is_subtype is_element
  no_references_of_ints class e = cc

starts_where : (names : List (List ℕ)) → list_all (is_array_by 73) names ≡ true → list_all (starts 91) names ≡ true
starts_where [] e = refl
starts_where (x ∷ names) e = go (is_array_by 73 x) refl e (starts_where names)
  where
    go : (b : Bool) → is_array_by 73 x ≡ b → (b && list_all (is_array_by 73) names) ≡ true
        → (list_all (is_array_by 73) names ≡ true → list_all (starts 91) names ≡ true)
        → (starts 91 x && list_all (starts 91) names) ≡ true
    go true is h more = ap (λ y. starts 91 y && list_all (starts 91) names) (bytes_true x (91 ∷ 73 ∷ []) is) ∙ more h
    go false is h more = cc

module _ (w : List Class) (l : Named) (types : TypesAreTold w l) (named : ClassesAreNamed w l) where
  pub ints_only : (names : List (List ℕ)) → list_all (is_array_by 73) names ≡ true → AreAll l IsInts (is_one_of l names)
  ints_only names all kind e made = go kind e made (below kind e)
    where
      below : (kind : Shape (List ℕ)) → is_one_of l names kind ≡ true
          → is_subtype w (shape_name kind) (array_name Ints) ≡ true
      below kind e =
          let h = has_name l names kind e in
          let is = bytes_true h.name (91 ∷ 73 ∷ []) (member_passes (is_array_by 73) names h.name all h.among) in
          ap (is_subtype w (shape_name kind)) (sym is) ∙ sym (types.tells h.name h.shape h.is_name kind) ∙ h.is_of

      go : (kind : Shape (List ℕ)) → is_one_of l names kind ≡ true → IsMadeOf l kind
          → is_subtype w (shape_name kind) (array_name Ints) ≡ true → IsInts kind
      go (OfClass class) e made is = absurd (arrays_only w l types named names (starts_where names all) class e made)
      go (OfNumbers a) e made is = subst IsInts (sym (numbers_of_ints w a is)) ints_of
      go (OfReferences class) e made is = absurd (no_references_of_ints w class is)

-- ---- the instructions

module _ (by : Linked) (l : Named) (w : List Class) (r : Resolution) (f : Found) (m : Method)
    (decoded : IsDecoded f.body) (sound : IsIntSound w r.constant f) (may_throw : Shape (List ℕ) → Bool)
    (told : IntCatchesAreTold by l may_throw m) (types : TypesAreTold w l) (named : ClassesAreNamed w l)
    (at offset : ℕ) (cells local_cells : List Cell) (x : RangeState) (ranged : HasRow f.ranges at x)
    (row : IsRow by l w r f m decoded sound at offset cells local_cells x ranged) where
  abbrev StepHere : JOp → Type 0
  StepHere op = Step by l w r f m decoded sound at offset cells local_cells x ranged op

  abbrev StandsHere : JOp → Type 0
  StandsHere op = Stands by l w r f m decoded sound at offset cells local_cells x ranged op

  abbrev RowHere : JOp → (taken left ls js : List Kind) → Type 0
  RowHere op taken left ls js = Row by l w r f m decoded sound at offset cells local_cells x ranged op taken left ls js

  abbrev insideHere : JOp → Bool
  insideHere op = inside by l w r f m decoded sound at offset cells local_cells x ranged op

  abbrev number : ℕ → Span
  number k = operand (spans_of x.stack) k

  abbrev kind_at : ℕ → Kind
  kind_at k = kind_of_cell l (typed.operand cells k) (number k)

  abbrev locals : List Kind
  locals = kinds l local_cells x.locals

  -- a row by the kinds of the cells on top
  abbrev KnownRow : JOp → (n : ℕ) → (taken left : List Kind) → Type 0
  KnownRow op n taken left = IsIntRow by l (int_frame f.body) r m (known taken (map is_reference (drop n cells))
      (insideHere op)) op taken left locals locals

  array_length : StandsHere jop.ArrayLength → StepHere jop.ArrayLength
  array_length there =
      let op = jop.ArrayLength in
      let h = typed_here by l w r f m decoded sound at offset cells local_cells x ranged row op there in
      let on = of_types (starts 91) (typed.operand cells 0) (h.operands 0 (omega arith)) in
      a_row by l w r f m decoded sound at offset cells local_cells x ranged row op refl (λ e. cc) refl
      (subst (λ ks. RowHere op ks (kinds l (Number ∷ []) (length_range ∷ drop 1 (spans_of x.stack))) locals locals)
      (one_reference by l w r f m decoded sound at offset cells local_cells x ranged row op there refl on.0 on.1)
      (rows.arraylength_row _ locals (is_one_of l on.0) (arrays_only w l types named on.0 on.2)))

  -- ---- loads

  load_index : (opcode : ℕ) → StandsHere (jop.ArrayLoad opcode) → typed.operand cells 0 ≡ Number
  load_index opcode there = let h = typed_here by l w r f m decoded sound at offset cells local_cells x ranged row
      (jop.ArrayLoad opcode) there in number_is (typed.operand cells 0) (h.operands 0 (omega arith))

  -- of an array of some types
  load_by : (opcode : ℕ) → StandsHere (jop.ArrayLoad opcode) → (names : List (List ℕ)) → typed.operand cells 1
      ≡ Refs names → (left : List Kind)
      → KnownRow (jop.ArrayLoad opcode) 2 (Range (number 0) ∷ Refers (is_one_of l names) ∷ []) left
      → RowHere (jop.ArrayLoad opcode) (kinds l (take 2 cells) (spans_of x.stack)) left locals locals
  load_by opcode there names is left h =
      let op = jop.ArrayLoad opcode in
      on_known by l w r f m decoded sound at offset cells local_cells x ranged row op 2
      (Range (number 0) ∷ Refers (is_one_of l names) ∷ []) left
      (ap (λ c. kinds l (c ∷ Refs names ∷ []) (spans_of x.stack)) (sym (load_index opcode there))
      ∙ ap (λ c. kinds l (typed.operand cells 0 ∷ c ∷ []) (spans_of x.stack)) (sym is)
      ∙ taken_two by l w r f m decoded sound at offset cells local_cells x ranged row op there refl) h

  -- what a load gives, by the types of its array
  abbrev loaded : (opcode : ℕ) → Cell → List Kind
  loaded opcode c = kinds l (element_of opcode c ∷ []) (element_range opcode c ∷ drop 2 (spans_of x.stack))

  load_row : (opcode : ℕ) → StandsHere (jop.ArrayLoad opcode) → (names : List (List ℕ)) → typed.operand cells 1
      ≡ Refs names → KnownRow (jop.ArrayLoad opcode) 2 (Range (number 0) ∷ Refers (is_one_of l names) ∷ [])
      (loaded opcode (Refs names)) → StepHere (jop.ArrayLoad opcode)
  load_row opcode there names is h =
      let op = jop.ArrayLoad opcode in
      a_row by l w r f m decoded sound at offset cells local_cells x ranged row op refl (λ e. cc) refl
      (subst (λ c. RowHere op (kinds l (take 2 cells) (spans_of x.stack)) (loaded opcode c) locals locals) (sym is)
      (load_by opcode there names is (loaded opcode (Refs names)) h))

  load_bytes : StandsHere (jop.ArrayLoad 0x33) → StepHere (jop.ArrayLoad 0x33)
  load_bytes there =
      let op = jop.ArrayLoad 0x33 in
      let h = typed_here by l w r f m decoded sound at offset cells local_cells x ranged row op there in
      let on = of_types (is_array_for 0x33) (typed.operand cells 1) (h.operands 1 (omega arith)) in
      load_row 0x33 there on.0 on.1 (rows.baload_row locals (map is_reference (drop 2 cells)) (insideHere op) (number 0)
      (byte_element_range (Refs on.0)) (is_one_of l on.0) (λ e. lies_within (number 0) index_range e)
      (bytes_only w l types named on.0 on.2) (byte_elements w l types named on.0 on.2))

  load_shorts : StandsHere (jop.ArrayLoad 0x35) → StepHere (jop.ArrayLoad 0x35)
  load_shorts there =
      let op = jop.ArrayLoad 0x35 in
      let h = typed_here by l w r f m decoded sound at offset cells local_cells x ranged row op there in
      let on = of_types (is_array_for 0x35) (typed.operand cells 1) (h.operands 1 (omega arith)) in
      load_row 0x35 there on.0 on.1 (rows.saload_row locals (map is_reference (drop 2 cells)) (insideHere op) (number 0)
      short_range (is_one_of l on.0) (λ e. lies_within (number 0) index_range e)
      (shorts_only w l types named on.0 on.2) (short_elements w l types named on.0 on.2))

  load_ints : StandsHere (jop.ArrayLoad 0x2E) → StepHere (jop.ArrayLoad 0x2E)
  load_ints there =
      let op = jop.ArrayLoad 0x2E in
      let h = typed_here by l w r f m decoded sound at offset cells local_cells x ranged row op there in
      let on = of_types (is_array_for 0x2E) (typed.operand cells 1) (h.operands 1 (omega arith)) in
      load_row 0x2E there on.0 on.1 (rows.iaload_row locals (map is_reference (drop 2 cells)) (insideHere op) (number 0)
      full (is_one_of l on.0) (λ e. lies_within (number 0) index_range e) (ints_only w l types named on.0 on.2)
      (within_refl full))

  load_references : StandsHere (jop.ArrayLoad 0x32) → StepHere (jop.ArrayLoad 0x32)
  load_references there =
      let op = jop.ArrayLoad 0x32 in
      let h = typed_here by l w r f m decoded sound at offset cells local_cells x ranged row op there in
      let on = of_types (is_array_for 0x32) (typed.operand cells 1) (h.operands 1 (omega arith)) in
      let left : List Kind = Refers (is_one_of l (elements on.0 [])) ∷ [] in
      has_row refl (λ e. cc) refl left
      (subst (λ c. AllWider left (loaded 0x32 c)) (sym on.1) (one_wider (refs_wider l (elements on.0 []) full)
      none_wider))
      (load_by 0x32 there on.0 on.1 left (rows.aaload_row locals (map is_reference (drop 2 cells)) (insideHere op)
      (number 0) (is_one_of l on.0) (is_one_of l (elements on.0 [])) (λ e. lies_within (number 0) index_range e)
      (references_only w l types named on.0 on.2) (items_pass w l types named on.0 on.2)))

  -- ---- stores

  store_index : (opcode : ℕ) → StandsHere (jop.ArrayStore opcode) → typed.operand cells 1 ≡ Number
  store_index opcode there = let h = typed_here by l w r f m decoded sound at offset cells local_cells x ranged row
      (jop.ArrayStore opcode) there in number_is (typed.operand cells 1) (h.operands 1 (omega arith))

  store_row : (opcode : ℕ) → StandsHere (jop.ArrayStore opcode) → (c : Cell) → typed.operand cells 0 ≡ c
      → (names : List (List ℕ)) → typed.operand cells 2 ≡ Refs names
      → KnownRow (jop.ArrayStore opcode) 3 (kind_of_cell l c (number 0) ∷ Range (number 1) ∷ Refers (is_one_of l names)
      ∷ []) [] → StepHere (jop.ArrayStore opcode)
  store_row opcode there c is_value names is h =
      let op = jop.ArrayStore opcode in
      a_row by l w r f m decoded sound at offset cells local_cells x ranged row op refl (λ e. cc) refl
      (on_known by l w r f m decoded sound at offset cells local_cells x ranged row op 3
      (kind_of_cell l c (number 0) ∷ Range (number 1) ∷ Refers (is_one_of l names) ∷ []) []
      (ap (λ d. kinds l (d ∷ Number ∷ Refs names ∷ []) (spans_of x.stack)) (sym is_value)
      ∙ ap (λ d. kinds l (typed.operand cells 0 ∷ d ∷ Refs names ∷ []) (spans_of x.stack)) (sym (store_index opcode
      there))
      ∙ ap (λ d. kinds l (typed.operand cells 0 ∷ typed.operand cells 1 ∷ d ∷ []) (spans_of x.stack)) (sym is)
      ∙ taken_three by l w r f m decoded sound at offset cells local_cells x ranged row op there refl) h)

  store_bytes : StandsHere (jop.ArrayStore 0x54) → StepHere (jop.ArrayStore 0x54)
  store_bytes there =
      let op = jop.ArrayStore 0x54 in
      let h = typed_here by l w r f m decoded sound at offset cells local_cells x ranged row op there in
      let value = number_is (typed.operand cells 0) (h.operands 0 (omega arith)) in
      let on = of_types (is_array_for 0x54) (typed.operand cells 2) (h.operands 2 (omega arith)) in
      store_row 0x54 there Number value on.0 on.1 (rows.bastore_row locals (map is_reference (drop 3 cells))
      (insideHere op) (number 1) (number 0) (is_one_of l on.0) (λ e. lies_within (number 1) index_range e)
      (bytes_only w l types named on.0 on.2)
      (λ e. within by l w r f m decoded sound at offset cells local_cells x ranged row op there 609 0 boolean_range refl
      (a_boolean_element (ap may_hold_booleans on.1 ∙ may_be_booleans w l types named on.0 on.2 e))))

  store_shorts : StandsHere (jop.ArrayStore 0x56) → StepHere (jop.ArrayStore 0x56)
  store_shorts there =
      let op = jop.ArrayStore 0x56 in
      let h = typed_here by l w r f m decoded sound at offset cells local_cells x ranged row op there in
      let value = number_is (typed.operand cells 0) (h.operands 0 (omega arith)) in
      let on = of_types (is_array_for 0x56) (typed.operand cells 2) (h.operands 2 (omega arith)) in
      store_row 0x56 there Number value on.0 on.1 (rows.sastore_row locals (map is_reference (drop 3 cells))
      (insideHere op) (number 1) (number 0) (is_one_of l on.0) (λ e. lies_within (number 1) index_range e)
      (shorts_only w l types named on.0 on.2))

  store_ints : StandsHere (jop.ArrayStore 0x4F) → StepHere (jop.ArrayStore 0x4F)
  store_ints there =
      let op = jop.ArrayStore 0x4F in
      let h = typed_here by l w r f m decoded sound at offset cells local_cells x ranged row op there in
      let value = number_is (typed.operand cells 0) (h.operands 0 (omega arith)) in
      let on = of_types (is_array_for 0x4F) (typed.operand cells 2) (h.operands 2 (omega arith)) in
      store_row 0x4F there Number value on.0 on.1 (rows.iastore_row locals (map is_reference (drop 3 cells))
      (insideHere op) (number 1) (number 0) (is_one_of l on.0) (λ e. lies_within (number 1) index_range e)
      (ints_only w l types named on.0 on.2))

  store_references : StandsHere (jop.ArrayStore 0x53) → StepHere (jop.ArrayStore 0x53)
  store_references there =
      let op = jop.ArrayStore 0x53 in
      let h = typed_here by l w r f m decoded sound at offset cells local_cells x ranged row op there in
      let value = reference_is (typed.operand cells 0) (h.operands 0 (omega arith)) in
      let on = of_types (is_array_for 0x53) (typed.operand cells 2) (h.operands 2 (omega arith)) in
      store_row 0x53 there (Refs value.0) value.1 on.0 on.1 (rows.aastore_row locals (map is_reference (drop 3 cells))
      (insideHere op) (number 1) (is_one_of l on.0) (is_one_of l value.0) (λ e. lies_within (number 1) index_range e)
      (references_only w l types named on.0 on.2) (λ class p kind q. told.tells kind class))

  pub array_step : (op : JOp) → IsOnIntArray op → StandsHere op → StepHere op
  array_step _ (as_outside on.arraylength) there = array_length there
  array_step _ (as_outside on.aaload) there = load_references there
  array_step _ (as_outside on.baload) there = load_bytes there
  array_step _ (as_outside on.saload) there = load_shorts there
  array_step _ (as_outside on.aastore) there = store_references there
  array_step _ (as_outside on.bastore) there = store_bytes there
  array_step _ (as_outside on.sastore) there = store_shorts there
  array_step _ iaload there = load_ints there
  array_step _ iastore there = store_ints there
