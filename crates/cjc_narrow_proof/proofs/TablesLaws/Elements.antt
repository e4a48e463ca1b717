-- Each instruction on arrays keeps its rule.
use Rattle.std.proofs.Common.{◌≡◌, ℕ, List, [], ◌∷◌, take, drop, refl, sym, ap, subst, ◌∙◌, arith}
use Rattle.cjc_range.specs.Span.{Span, Within, short_range, full}
use Rattle.cjc_code.specs.declared.insn.JOp.{JOp}
use Rattle.cjc_code.specs.declared.insn.JOp.TheVariants as jop
use Rattle.cjc_world.specs.Classes.{Class}
use Rattle.cjc_world.specs.Subtype.{starts}
use Rattle.cjc_types.specs.declared.cell.Cell.{Cell}
use Rattle.cjc_types.specs.declared.cell.Cell.TheVariants.{Number, Refs}
use Rattle.cjc_types.specs.Rules.{is_array_for}
use Rattle.cjc_types.specs.Steps as typed
use Rattle.cjc_types.specs.Types.{elements, element_of}
use Rattle.cjc_ncode.specs.ByLabel.{Named}
use Rattle.cjc_jvm_semantics.specs.Linked.{Method, Linked}
use Rattle.cjc_intervals.specs.Frames.{RangeState, spans_of}
use Rattle.cjc_intervals.specs.Values.{boolean_range, length_range, byte_element_range, element_range}
use Rattle.cjc_intervals.specs.Steps.{operand}
use Rattle.cjc_intervals.specs.Bounds.{index_range, may_hold_booleans, a_load, a_store, a_boolean_element}
use Rattle.cjc_narrow_proof.specs.Selection.Relation.{Kind, Range, Refers, AllWider, none_wider, one_wider}
use Rattle.cjc_narrow_proof.specs.Selection.Rows.{RowAgrees}
use Rattle.cjc_narrow_proof.proofs.SelectionLaws.References.{arraylength}
use Rattle.cjc_narrow_proof.proofs.SelectionLaws.Elements.{baload, saload, bastore, sastore}
use Rattle.cjc_narrow_proof.proofs.SelectionLaws.ReferenceItems.{aaload, aastore}
use Rattle.cjc_narrow_proof.specs.Tables.Kinds.{is_one_of, kind_of_cell, kinds}
use Rattle.cjc_narrow_proof.specs.Tables.Analysis.{Analysis, IsAlone, IsDecoded, IsSound, IsRead, CatchesAreTold}
use Rattle.cjc_narrow_proof.specs.Tables.Analysis.{TypesAreTold}
use Rattle.cjc_narrow_proof.specs.Tables.Arrays.{ClassesAreNamed, IsOnArray}
use Rattle.cjc_narrow_proof.specs.Tables.Arrays as on
use Rattle.cjc_narrow_proof.proofs.TablesLaws.Arrays.{of_types, arrays_only, bytes_only, shorts_only, references_only}
use Rattle.cjc_narrow_proof.proofs.TablesLaws.Arrays.{items_pass, byte_elements, short_elements, may_be_booleans}
use Rattle.cjc_narrow_proof.proofs.TablesLaws.Arrays.{refs_wider}
use Rattle.cjc_narrow_proof.proofs.TablesLaws.Rows.{row_by, wider_row_by}
use Rattle.cjc_narrow_proof.proofs.TablesLaws.Plain.{t, Stands, IsRow, Keeps, typed_here, within, number_is}
use Rattle.cjc_narrow_proof.proofs.TablesLaws.Plain.{reference_is, one_reference, taken_two, taken_three}

module _ (by : Linked) (l : Named) (w : List Class) (a : Analysis) (m : Method) (read : IsRead a m)
    (decoded : IsDecoded (let f = a.found m in f.body)) (sound : IsSound w (let r = a.resolution m
    in r.constant) (a.found m)) (told : CatchesAreTold by l a m) (types : TypesAreTold w l) (named : ClassesAreNamed w
    l) (at offset : ℕ) (cells local_cells : List Cell) (x : RangeState) (ranged : IsAlone a m at x)
    (row : IsRow by l w a m read decoded sound told at offset cells local_cells x ranged) where
  abbrev KeepsHere : JOp → Type 0
  KeepsHere op = Keeps by l w a m read decoded sound told at offset cells local_cells x ranged op

  abbrev StandsHere : JOp → Type 0
  StandsHere op = Stands by l w a m read decoded sound told at offset cells local_cells x ranged op

  abbrev number : ℕ → Span
  number k = operand (spans_of x.stack) k

  abbrev kind_at : ℕ → Kind
  kind_at k = kind_of_cell l (typed.operand cells k) (number k)

  array_length : StandsHere jop.ArrayLength → KeepsHere jop.ArrayLength
  array_length there =
      let op = jop.ArrayLength in
      let h = typed_here by l w a m read decoded sound told at offset cells local_cells x ranged row op there in
      let on = of_types (starts 91) (typed.operand cells 0) (h.operands 0 (omega arith)) in
      row_by by l w a m read decoded sound told at offset op (t by l w a m read decoded sound told at offset cells
      local_cells x ranged) x there row ranged (λ e. cc) refl _ refl refl refl
      (subst (λ ks. RowAgrees by l (a.resolution m) m op ks (kinds l (Number ∷ []) (length_range
      ∷ drop 1 (spans_of x.stack)))) (one_reference by l w a m read decoded sound told at offset cells local_cells x
      ranged row op there refl on.0 on.1)
      (arraylength by l (a.resolution m) m (is_one_of l on.0) (arrays_only w l types named on.0 on.2)))

  -- ---- loads

  load_index : (opcode : ℕ) → StandsHere (jop.ArrayLoad opcode) → typed.operand cells 0 ≡ Number
  load_index opcode there = let h = typed_here by l w a m read decoded sound told at offset cells local_cells x ranged
      row (jop.ArrayLoad opcode) there in number_is (typed.operand cells 0) (h.operands 0 (omega arith))

  load_near : (opcode : ℕ) → StandsHere (jop.ArrayLoad opcode) → Within (number 0) index_range
  load_near opcode there = within by l w a m read decoded sound told at offset cells local_cells x ranged row
      (jop.ArrayLoad opcode) there 606 0 index_range a_load

  -- of an array of some types
  load_by : (opcode : ℕ) → StandsHere (jop.ArrayLoad opcode) → (names : List (List ℕ)) → typed.operand cells 1
      ≡ Refs names → (left : List Kind) → RowAgrees by l (a.resolution m) m (jop.ArrayLoad opcode) (Range (number 0)
      ∷ Refers (is_one_of l names) ∷ []) left
      → RowAgrees by l (a.resolution m) m (jop.ArrayLoad opcode) (kinds l (take 2 cells) (spans_of x.stack)) left
  load_by opcode there names is left agrees =
      let op = jop.ArrayLoad opcode in
      subst (λ ks. RowAgrees by l (a.resolution m) m op ks left) (taken_two by l w a m read decoded sound told at offset
      cells local_cells x ranged row op there refl)
      (subst (λ c. RowAgrees by l (a.resolution m) m op (kind_of_cell l c (number 0) ∷ kind_at 1 ∷ []) left)
      (sym (load_index opcode there))
      (subst (λ c. RowAgrees by l (a.resolution m) m op (Range (number 0) ∷ kind_of_cell l c (number 1) ∷ []) left)
      (sym is) agrees))

  -- what a load gives, by the types of its array
  abbrev loaded : (opcode : ℕ) → Cell → List Kind
  loaded opcode c = kinds l (element_of opcode c ∷ []) (element_range opcode c ∷ drop 2 (spans_of x.stack))

  load_row : (opcode : ℕ) → StandsHere (jop.ArrayLoad opcode) → (names : List (List ℕ)) → typed.operand cells 1
      ≡ Refs names → RowAgrees by l (a.resolution m) m (jop.ArrayLoad opcode) (Range (number 0)
      ∷ Refers (is_one_of l names) ∷ []) (loaded opcode (Refs names)) → KeepsHere (jop.ArrayLoad opcode)
  load_row opcode there names is agrees =
      let op = jop.ArrayLoad opcode in
      row_by by l w a m read decoded sound told at offset op (t by l w a m read decoded sound told at offset cells
      local_cells x ranged) x there row ranged (λ e. cc) refl _ refl refl refl
      (subst (λ c. RowAgrees by l (a.resolution m) m op (kinds l (take 2 cells) (spans_of x.stack)) (loaded opcode c))
      (sym is) (load_by opcode there names is (loaded opcode (Refs names)) agrees))

  load_bytes : StandsHere (jop.ArrayLoad 0x33) → KeepsHere (jop.ArrayLoad 0x33)
  load_bytes there =
      let h = typed_here by l w a m read decoded sound told at offset cells local_cells x ranged row
      (jop.ArrayLoad 0x33) there in
      let on = of_types (is_array_for 0x33) (typed.operand cells 1) (h.operands 1 (omega arith)) in
      load_row 0x33 there on.0 on.1 (baload by l (a.resolution m) m (number 0) (byte_element_range (Refs on.0))
      (load_near 0x33 there) (is_one_of l on.0) (byte_elements w l types named on.0 on.2)
      (bytes_only w l types named on.0 on.2))

  load_shorts : StandsHere (jop.ArrayLoad 0x35) → KeepsHere (jop.ArrayLoad 0x35)
  load_shorts there =
      let h = typed_here by l w a m read decoded sound told at offset cells local_cells x ranged row
      (jop.ArrayLoad 0x35) there in
      let on = of_types (is_array_for 0x35) (typed.operand cells 1) (h.operands 1 (omega arith)) in
      load_row 0x35 there on.0 on.1 (saload by l (a.resolution m) m (number 0) short_range (load_near 0x35 there)
      (is_one_of l on.0) (short_elements w l types named on.0 on.2) (shorts_only w l types named on.0 on.2))

  load_references : StandsHere (jop.ArrayLoad 0x32) → KeepsHere (jop.ArrayLoad 0x32)
  load_references there =
      let op = jop.ArrayLoad 0x32 in
      let h = typed_here by l w a m read decoded sound told at offset cells local_cells x ranged row op there in
      let on = of_types (is_array_for 0x32) (typed.operand cells 1) (h.operands 1 (omega arith)) in
      let left : List Kind = Refers (is_one_of l (elements on.0 [])) ∷ [] in
      wider_row_by by l w a m read decoded sound told at offset op (t by l w a m read decoded sound told at offset cells
      local_cells x ranged) x there row ranged (λ e. cc) refl _ refl refl refl left
      (subst (λ c. AllWider left (loaded 0x32 c)) (sym on.1) (one_wider (refs_wider l (elements on.0 []) full)
      none_wider))
      (load_by 0x32 there on.0 on.1 left (aaload by l (a.resolution m) m (number 0) (load_near 0x32 there)
      (is_one_of l on.0) (is_one_of l (elements on.0 [])) (references_only w l types named on.0 on.2)
      (items_pass w l types named on.0 on.2)))

  -- ---- stores

  store_index : (opcode : ℕ) → StandsHere (jop.ArrayStore opcode) → typed.operand cells 1 ≡ Number
  store_index opcode there = let h = typed_here by l w a m read decoded sound told at offset cells local_cells x ranged
      row (jop.ArrayStore opcode) there in number_is (typed.operand cells 1) (h.operands 1 (omega arith))

  store_near : (opcode : ℕ) → StandsHere (jop.ArrayStore opcode) → Within (number 1) index_range
  store_near opcode there = within by l w a m read decoded sound told at offset cells local_cells x ranged row
      (jop.ArrayStore opcode) there 606 1 index_range a_store

  store_row : (opcode : ℕ) → StandsHere (jop.ArrayStore opcode) → (c : Cell) → typed.operand cells 0 ≡ c
      → (names : List (List ℕ)) → typed.operand cells 2 ≡ Refs names
      → RowAgrees by l (a.resolution m) m (jop.ArrayStore opcode) (kind_of_cell l c (number 0) ∷ Range (number 1)
      ∷ Refers (is_one_of l names) ∷ []) [] → KeepsHere (jop.ArrayStore opcode)
  store_row opcode there c is_value names is agrees =
      let op = jop.ArrayStore opcode in
      row_by by l w a m read decoded sound told at offset op (t by l w a m read decoded sound told at offset cells
      local_cells x ranged) x there row ranged (λ e. cc) refl _ refl refl refl
      (subst (λ ks. RowAgrees by l (a.resolution m) m op ks []) (taken_three by l w a m read decoded sound told at
      offset cells local_cells x ranged row op there refl)
      (subst (λ c. RowAgrees by l (a.resolution m) m op (kind_of_cell l c (number 0) ∷ kind_at 1 ∷ kind_at 2 ∷ []) [])
      (sym is_value)
      (subst (λ d. RowAgrees by l (a.resolution m) m op (kind_of_cell l c (number 0) ∷ kind_of_cell l d (number 1)
      ∷ kind_at 2 ∷ []) []) (sym (store_index opcode there))
      (subst (λ d. RowAgrees by l (a.resolution m) m op (kind_of_cell l c (number 0) ∷ Range (number 1)
      ∷ kind_of_cell l d (number 2) ∷ []) []) (sym is) agrees))))

  store_bytes : StandsHere (jop.ArrayStore 0x54) → KeepsHere (jop.ArrayStore 0x54)
  store_bytes there =
      let op = jop.ArrayStore 0x54 in
      let h = typed_here by l w a m read decoded sound told at offset cells local_cells x ranged row op there in
      let value = number_is (typed.operand cells 0) (h.operands 0 (omega arith)) in
      let on = of_types (is_array_for 0x54) (typed.operand cells 2) (h.operands 2 (omega arith)) in
      store_row 0x54 there Number value on.0 on.1 (bastore by l (a.resolution m) m (number 1) (number 0)
      (store_near 0x54 there) (is_one_of l on.0) (bytes_only w l types named on.0 on.2)
      (λ e. within by l w a m read decoded sound told at offset cells local_cells x ranged row op there 609 0
      boolean_range (a_boolean_element (ap may_hold_booleans on.1 ∙ may_be_booleans w l types named on.0 on.2 e))))

  store_shorts : StandsHere (jop.ArrayStore 0x56) → KeepsHere (jop.ArrayStore 0x56)
  store_shorts there =
      let op = jop.ArrayStore 0x56 in
      let h = typed_here by l w a m read decoded sound told at offset cells local_cells x ranged row op there in
      let value = number_is (typed.operand cells 0) (h.operands 0 (omega arith)) in
      let on = of_types (is_array_for 0x56) (typed.operand cells 2) (h.operands 2 (omega arith)) in
      store_row 0x56 there Number value on.0 on.1 (sastore by l (a.resolution m) m (number 1) (number 0)
      (store_near 0x56 there) (is_one_of l on.0) (shorts_only w l types named on.0 on.2))

  store_references : StandsHere (jop.ArrayStore 0x53) → KeepsHere (jop.ArrayStore 0x53)
  store_references there =
      let op = jop.ArrayStore 0x53 in
      let h = typed_here by l w a m read decoded sound told at offset cells local_cells x ranged row op there in
      let value = reference_is (typed.operand cells 0) (h.operands 0 (omega arith)) in
      let on = of_types (is_array_for 0x53) (typed.operand cells 2) (h.operands 2 (omega arith)) in
      store_row 0x53 there (Refs value.0) value.1 on.0 on.1 (aastore by l (a.resolution m) m (number 1)
      (store_near 0x53 there) (is_one_of l on.0) (is_one_of l value.0) (references_only w l types named on.0 on.2)
      (λ class p kind q. told.tells kind class))

  pub on_array : (op : JOp) → IsOnArray op → StandsHere op → KeepsHere op
  on_array _ on.arraylength there = array_length there
  on_array _ on.aaload there = load_references there
  on_array _ on.baload there = load_bytes there
  on_array _ on.saload there = load_shorts there
  on_array _ on.aastore there = store_references there
  on_array _ on.bastore there = store_bytes there
  on_array _ on.sastore there = store_shorts there
