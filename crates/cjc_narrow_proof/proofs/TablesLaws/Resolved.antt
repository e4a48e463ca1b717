-- Each instruction that names a field, a static field, a class or a type keeps its rule.
use Rattle.std.proofs.Common.{◌≡◌, ◌<◌, ◌+◌, ◌||◌, ℕ, Bool, true, false, List, [], ◌∷◌, ◌++◌, length, take, drop}
use Rattle.std.proofs.Common.{slice_get, Option, Some, None, refl, sym, ap, subst, ◌∙◌, arith, ℤ}
use Rattle.std.specs.Prelude.{if◌then◌else◌}
use Rattle.cjc_bytes.specs.Descriptor.{Part}
use Rattle.cjc_bytes.specs.Spots.{desc_of, parts_of, bad_at, after, types_from}
use Rattle.cjc_bytes.specs.declared.fault.MemberId.{MemberId}
use Rattle.cjc_range.specs.Span.{Span, Holds, Within, short_range, full}
use Rattle.cjc_code.specs.declared.insn.JOp.{JOp}
use Rattle.cjc_code.specs.declared.insn.JOp.TheVariants as jop
use Rattle.cjc_script.specs.Sorts.{Shape, OfClass, OfNumbers, OfReferences, Element, Booleans, Bytes, Shorts, Ints}
use Rattle.cjc_script.specs.Sorts.{Sort, array_name, shape_name, shape_named, sort_of, sort_or_none, field_sort}
use Rattle.cjc_world.specs.Classes.{Class}
use Rattle.cjc_world.specs.Subtype.{is_subtype}
use Rattle.cjc_types.specs.declared.cell.Cell.{Cell}
use Rattle.cjc_types.specs.declared.cell.Cell.TheVariants.{Number, Refs, Unusable}
use Rattle.cjc_types.specs.Rules.{is_of}
use Rattle.cjc_types.specs.Steps as typed
use Rattle.cjc_types.specs.Types.{parts, letter, is_void, value_of, result_of, array_of}
use Rattle.cjc_ncode.specs.declared.narrow.NInsn.{NInsn}
use Rattle.cjc_ncode.specs.Written.{static_by, type_test}
use Rattle.cjc_ncode.specs.ByLabel.{Named}
use Rattle.cjc_jvm_semantics.specs.Linked.{Method, Linked}
use Rattle.cjc_intervals.specs.Frames.{RangeState, spans_of}
use Rattle.cjc_intervals.specs.Values.{exactly, range_of, result_ranges}
use Rattle.cjc_intervals.specs.Steps.{operand, field_range}
use Rattle.cjc_intervals.specs.Bounds.{a_static_field, a_field as a_field_bound, a_count, a_reference_count}
use Rattle.cjc_narrow_proof.specs.Selection.Relation.{Kind, Range, Refers, boolean_range, AllWider}
use Rattle.cjc_narrow_proof.specs.Selection.Rows.{RowAgrees, kind_of, is_word_sort, FieldIsThere}
use Rattle.cjc_narrow_proof.specs.Selection.Objects.{IsMade, IsClassThere, IsTypeThere}
use Rattle.cjc_narrow_proof.specs.Selection.Cells.{MayBePut, CellIsThere, IsConstant}
use Rattle.cjc_narrow_proof.specs.Selection.Replies.{is_of_some}
use Rattle.cjc_narrow_proof.proofs.SelectionLaws.Gets.{getfield}
use Rattle.cjc_narrow_proof.proofs.SelectionLaws.Puts.{getstatic, putstatic, putfield}
use Rattle.cjc_narrow_proof.proofs.SelectionLaws.Pushes.{constant_field}
use Rattle.cjc_narrow_proof.proofs.SelectionLaws.News.{new as new_object, booleans, bytes, shorts, anewarray}
use Rattle.cjc_narrow_proof.proofs.SelectionLaws.Casts.{checkcast, instanceof}
use Rattle.cjc_narrow_proof.specs.Tables.Kinds.{is_one_of, kind_of_cell, kinds}
use Rattle.cjc_narrow_proof.specs.Tables.Analysis.{Analysis, IsAlone, IsDecoded, IsSound, IsRead, CatchesAreTold}
use Rattle.cjc_narrow_proof.specs.Tables.Analysis.{TypesAreTold}
use Rattle.cjc_narrow_proof.specs.Tables.Names.{IsDesc, IsResolved}
use Rattle.cjc_narrow_proof.specs.Tables.Names as named_here
use Rattle.cjc_narrow_proof.proofs.TablesLaws.Values.{given_wider, may_put}
use Rattle.cjc_narrow_proof.proofs.TablesLaws.Rows.{row_by, wider_row_by}
use Rattle.cjc_narrow_proof.proofs.TablesLaws.Plain.{t, Stands, IsRow, Keeps, typed_here, within, number_at}
use Rattle.cjc_narrow_proof.proofs.TablesLaws.Plain.{reference_at, one_number, one_reference, taken_one, taken_two}
use Rattle.cjc_narrow_proof.proofs.TablesLaws.Plain.{exactly_is}
use Rattle.cjc_narrow_proof.proofs.SelectionLaws.Stores.{holds_itself as itself}

pub of_reference : (w : List Class) (class : List ℕ) (c : Cell) → is_of w class c ≡ true → (names : List (List ℕ))
    × (c ≡ Refs names)
of_reference w class Number e = cc
of_reference w class (Refs names) e = (names, refl)
of_reference w class Unusable e = cc

pub same_long : (p : Part) → length (result_of p) ≡ length (result_ranges p)
same_long p = go (is_void p.kind)
  where
    go : (b : Bool) → length (if b then [] else value_of p ∷ []) ≡ length (if b then [] else range_of p ∷ [])
    go true = refl
    go false = refl

pub sort_is : (desc : List ℕ) → IsDesc desc → field_sort desc ≡ sort_of (parts desc).result
sort_is desc e = ap sort_or_none e

test_written : (op : ℕ) (kind : Shape (List ℕ)) → (insn : NInsn) × (type_test op (Some kind) ≡ insn ∷ [])
test_written op (OfClass class) = (_, refl)
test_written op (OfReferences class) = (_, refl)
test_written op (OfNumbers Booleans) = (_, refl)
test_written op (OfNumbers Bytes) = (_, refl)
test_written op (OfNumbers Shorts) = (_, refl)
test_written op (OfNumbers Ints) = (_, refl)

booleans_named : shape_named (91 ∷ letter 4 ∷ []) ≡ Some (OfNumbers Booleans)
unfolding desc_of parts_of bad_at after types_from
booleans_named = refl

bytes_named : shape_named (91 ∷ letter 8 ∷ []) ≡ Some (OfNumbers Bytes)
unfolding desc_of parts_of bad_at after types_from
bytes_named = refl

shorts_named : shape_named (91 ∷ letter 9 ∷ []) ≡ Some (OfNumbers Shorts)
unfolding desc_of parts_of bad_at after types_from
shorts_named = refl

one_named : (l : Named) (name : List ℕ) (shape : Shape (List ℕ)) → shape_named name ≡ Some shape
    → (kind : Shape (List ℕ)) → l.is_of kind shape ≡ true → is_one_of l (name ∷ []) kind ≡ true
one_named l name shape named kind e = ap (λ o. is_of_some l kind o || false) named ∙ ap (λ b. b || false) e

module _ (by : Linked) (l : Named) (w : List Class) (a : Analysis) (m : Method) (read : IsRead a m)
    (decoded : IsDecoded (let f = a.found m in f.body)) (sound : IsSound w (let r = a.resolution m
    in r.constant) (a.found m)) (told : CatchesAreTold by l a m) (types : TypesAreTold w l) (at offset : ℕ)
    (cells local_cells : List Cell) (x : RangeState) (ranged : IsAlone a m at x)
    (row : IsRow by l w a m read decoded sound told at offset cells local_cells x ranged) where
  abbrev KeepsHere : JOp → Type 0
  KeepsHere op = Keeps by l w a m read decoded sound told at offset cells local_cells x ranged op

  abbrev StandsHere : JOp → Type 0
  StandsHere op = Stands by l w a m read decoded sound told at offset cells local_cells x ranged op

  abbrev top : Kind
  top = kind_of_cell l (typed.operand cells 0) (operand (spans_of x.stack) 0)

  get_field : (named : MemberId) → StandsHere (jop.Field false named) → IsDesc named.desc → ((names : List (List ℕ))
      → typed.operand cells 0 ≡ Refs names → FieldIsThere by l (a.resolution m) m named (is_one_of l names))
      → KeepsHere (jop.Field false named)
  get_field named there desc field =
      let op = jop.Field false named in
      let p = (parts named.desc).result in
      let h = typed_here by l w a m read decoded sound told at offset cells local_cells x ranged row op there in
      let is = of_reference w named.class (typed.operand cells 0) (h.operands 0 (omega arith)) in
      let f = field is.0 is.1 in
      let sort = sort_is named.desc desc in
      wider_row_by by l w a m read decoded sound told at offset op (t by l w a m read decoded sound told at offset cells
      local_cells x ranged) x there row ranged (λ e. cc) refl _ refl (same_long p) refl
      (kind_of l (field_sort named.desc) ∷ [])
      (subst (λ s. AllWider (kind_of l s ∷ []) (kinds l (result_of p) (result_ranges p ++ drop 1 (spans_of x.stack))))
      (sym sort) (given_wider l p (drop 1 (spans_of x.stack)) (ap is_word_sort (sym sort) ∙ f.one_word)))
      (subst (λ ks. RowAgrees by l (a.resolution m) m op ks (kind_of l (field_sort named.desc) ∷ []))
      (one_reference by l w a m read decoded sound told at offset cells local_cells x ranged row op there refl is.0
      is.1)
      (getfield by l (a.resolution m) m named (is_one_of l is.0) f))

  put_field : (named : MemberId) → StandsHere (jop.Field true named) → IsDesc named.desc → ((names : List (List ℕ))
      → typed.operand cells 1 ≡ Refs names → FieldIsThere by l (a.resolution m) m named (is_one_of l names))
      → KeepsHere (jop.Field true named)
  put_field named there desc field =
      let op = jop.Field true named in
      let p = (parts named.desc).result in
      let h = typed_here by l w a m read decoded sound told at offset cells local_cells x ranged row op there in
      let is = of_reference w named.class (typed.operand cells 1) (h.operands 1 (omega arith)) in
      let f = field is.0 is.1 in
      let sort = sort_is named.desc desc in
      let put = may_put w l types p (typed.operand cells 0) (operand (spans_of x.stack) 0) (ap is_word_sort (sym sort)
      ∙ f.one_word) (h.operands 0 (omega arith)) (λ rule s bound. within by l w a m read decoded sound told at
      offset cells local_cells x ranged row op there rule 0 s (a_field_bound bound)) in
      row_by by l w a m read decoded sound told at offset op (t by l w a m read decoded sound told at offset cells
      local_cells x ranged) x there row ranged (λ e. cc) refl _ refl refl refl
      (subst (λ ks. RowAgrees by l (a.resolution m) m op ks []) (taken_two by l w a m read decoded sound told at offset
      cells local_cells x ranged row op there refl)
      (subst (λ c. RowAgrees by l (a.resolution m) m op (top ∷ kind_of_cell l c (operand (spans_of x.stack) 1) ∷ []) [])
      (sym is.1)
      (putfield by l (a.resolution m) m named top (is_one_of l is.0) f (subst (λ s. MayBePut l s top) (sym sort) put))))

  get_static : (named : MemberId) → StandsHere (jop.Static false named) → IsDesc named.desc
      → CellIsThere by l (a.resolution m) m named → KeepsHere (jop.Static false named)
  get_static named there desc field =
      let op = jop.Static false named in
      let p = (parts named.desc).result in
      let none = field.is_no_constant in
      let sort = sort_is named.desc desc in
      wider_row_by by l w a m read decoded sound told at offset op (t by l w a m read decoded sound told at offset cells
      local_cells x ranged) x there row ranged (λ e. cc) refl _ (ap (static_by (a.resolution m) false named) none)
      (same_long p ∙ ap (λ o. length (field_range o p)) (sym none)) refl
      (kind_of l (field_sort named.desc) ∷ [])
      (subst (λ o. AllWider (kind_of l (field_sort named.desc) ∷ []) (kinds l (result_of p) (field_range o p
      ++ spans_of x.stack))) (sym none)
      (subst (λ s. AllWider (kind_of l s ∷ []) (kinds l (result_of p) (result_ranges p ++ spans_of x.stack))) (sym sort)
      (given_wider l p (spans_of x.stack) (ap is_word_sort (sym sort) ∙ field.one_word))))
      (getstatic by l (a.resolution m) m named field)

  get_constant : (named : MemberId) (z : ℤ) → StandsHere (jop.Static false named) → result_of (parts named.desc).result
      ≡ Number ∷ [] → Holds full z → IsConstant by (a.resolution m) m named z → KeepsHere (jop.Static false named)
  get_constant named z there number inside is =
      let op = jop.Static false named in
      let p = (parts named.desc).result in
      let constant = is.narrow in
      row_by by l w a m read decoded sound told at offset op (t by l w a m read decoded sound told at offset cells
      local_cells x ranged) x there row ranged (λ e. cc) refl _ (ap (static_by (a.resolution m) false named)
      constant)
      (ap length number ∙ ap (λ o. length (field_range o p)) (sym constant)) refl
      (subst (λ cs. RowAgrees by l (a.resolution m) m op [] (kinds l cs (field_range (let r = a.resolution m
      in r.constant named) p ++ spans_of x.stack))) (sym number)
      (subst (λ o. RowAgrees by l (a.resolution m) m op [] (kinds l (Number ∷ []) (field_range o p
      ++ spans_of x.stack))) (sym constant)
      (constant_field by l (a.resolution m) m z (exactly z) (subst (λ s. Holds s z) (sym (exactly_is z inside))
      (itself z)) named is)))

  put_static : (named : MemberId) → StandsHere (jop.Static true named) → IsDesc named.desc
      → CellIsThere by l (a.resolution m) m named → KeepsHere (jop.Static true named)
  put_static named there desc field =
      let op = jop.Static true named in
      let p = (parts named.desc).result in
      let none = field.is_no_constant in
      let sort = sort_is named.desc desc in
      let h = typed_here by l w a m read decoded sound told at offset cells local_cells x ranged row op there in
      let put = may_put w l types p (typed.operand cells 0) (operand (spans_of x.stack) 0) (ap is_word_sort (sym sort)
      ∙ field.one_word) (h.operands 0 (omega arith)) (λ rule s bound. within by l w a m read decoded sound told at
      offset cells local_cells x ranged row op there rule 0 s (a_static_field bound)) in
      row_by by l w a m read decoded sound told at offset op (t by l w a m read decoded sound told at offset cells
      local_cells x ranged) x there row ranged (λ e. cc) refl _ (ap (static_by (a.resolution m) true named) none)
      refl refl
      (subst (λ ks. RowAgrees by l (a.resolution m) m op ks []) (taken_one by l w a m read decoded sound told at offset
      cells local_cells x ranged row op there refl)
      (putstatic by l (a.resolution m) m named top field (subst (λ s. MayBePut l s top) (sym sort) put)))

  make_object : (class : List ℕ) → StandsHere (jop.New class) → IsMade by l m class
      → shape_named class ≡ Some (OfClass class) → KeepsHere (jop.New class)
  make_object class there made named =
      row_by by l w a m read decoded sound told at offset (jop.New class) (t by l w a m read decoded sound told at
      offset cells local_cells x ranged) x there row ranged (λ e. cc) refl _ refl refl refl
      (new_object by l (a.resolution m) m class (is_one_of l (class ∷ [])) made (one_named l class (OfClass class) named
      (OfClass class) (types.tells class (OfClass class) named (OfClass class) ∙ types.itself class)))

  make_array : (class : List ℕ) → StandsHere (jop.ANewArray class) → IsClassThere by l m class
      → shape_named (array_of class) ≡ Some (OfReferences class) → shape_name (OfReferences class) ≡ array_of class
      → KeepsHere (jop.ANewArray class)
  make_array class there is named spelt =
      let op = jop.ANewArray class in
      let number = number_at by l w a m read decoded sound told at offset cells local_cells x ranged row op there 0
      (omega arith) (λ c. refl) in
      row_by by l w a m read decoded sound told at offset op (t by l w a m read decoded sound told at offset cells
      local_cells x ranged) x there row ranged (λ e. cc) refl _ refl refl refl
      (subst (λ ks. RowAgrees by l (a.resolution m) m op ks (Refers (is_one_of l (array_of class ∷ [])) ∷ []))
      (one_number by l w a m read decoded sound told at offset cells local_cells x ranged row op there refl number)
      (anewarray by l (a.resolution m) m (operand (spans_of x.stack) 0) (within by l w a m read decoded sound told at
      offset cells local_cells x ranged row op there 605 0 short_range a_reference_count)
      (is_one_of l (array_of class ∷ [])) class is
      (one_named l (array_of class) (OfReferences class) named (OfReferences class) (types.tells (array_of class)
      (OfReferences class) named (OfReferences class) ∙ ap (λ n. is_subtype w n (array_of class)) spelt
      ∙ types.itself (array_of class)))))

  make_numbers : (number : ℕ) (element : Element) → StandsHere (jop.NewArray number)
      → shape_named (91 ∷ letter number ∷ []) ≡ Some (OfNumbers element) → array_name element ≡ 91 ∷ letter number ∷ []
      → ((within : Shape (List ℕ) → Bool) → within (OfNumbers element) ≡ true
      → Within (operand (spans_of x.stack) 0) short_range → RowAgrees by l (a.resolution m) m (jop.NewArray number)
      (Range (operand (spans_of x.stack) 0) ∷ []) (Refers within ∷ [])) → KeepsHere (jop.NewArray number)
  make_numbers number element there named spelt agrees =
      let op = jop.NewArray number in
      let name = 91 ∷ letter number ∷ [] in
      let count = number_at by l w a m read decoded sound told at offset cells local_cells x ranged row op there 0
      (omega arith) (λ c. refl) in
      row_by by l w a m read decoded sound told at offset op (t by l w a m read decoded sound told at offset cells
      local_cells x ranged) x there row ranged (λ e. cc) refl _ refl refl refl
      (subst (λ ks. RowAgrees by l (a.resolution m) m op ks (Refers (is_one_of l (name ∷ [])) ∷ []))
      (one_number by l w a m read decoded sound told at offset cells local_cells x ranged row op there refl count)
      (agrees (is_one_of l (name ∷ [])) (one_named l name (OfNumbers element) named (OfNumbers element)
      (types.tells name (OfNumbers element) named (OfNumbers element) ∙ ap (λ n. is_subtype w n name) spelt
      ∙ types.itself name))
      (within by l w a m read decoded sound told at offset cells local_cells x ranged row op there 605 0 short_range
      a_count)))

  cast : (type : List ℕ) → StandsHere (jop.CheckCast type) → IsTypeThere by l m type → KeepsHere (jop.CheckCast type)
  cast type there is =
      let op = jop.CheckCast type in
      let one = test_written 0x94 is.kind in
      let on = reference_at by l w a m read decoded sound told at offset cells local_cells x ranged row op there 0
      (omega arith) (λ c. refl) in
      row_by by l w a m read decoded sound told at offset op (t by l w a m read decoded sound told at offset cells
      local_cells x ranged) x there row ranged (λ e. cc) refl one.0 (ap (type_test 0x94) is.is_name
      ∙ one.1) refl refl
      (subst (λ ks. RowAgrees by l (a.resolution m) m op ks (Refers (is_one_of l (type ∷ [])) ∷ []))
      (one_reference by l w a m read decoded sound told at offset cells local_cells x ranged row op there refl on.0
      on.1)
      (checkcast by l (a.resolution m) m type is (is_one_of l on.0) (is_one_of l (type ∷ [])) (λ kind p e. one_named l
      type is.kind is.is_name kind e)))

  test : (type : List ℕ) → StandsHere (jop.InstanceOf type) → IsTypeThere by l m type → KeepsHere (jop.InstanceOf type)
  test type there is =
      let op = jop.InstanceOf type in
      let one = test_written 0x95 is.kind in
      let on = reference_at by l w a m read decoded sound told at offset cells local_cells x ranged row op there 0
      (omega arith) (λ c. refl) in
      row_by by l w a m read decoded sound told at offset op (t by l w a m read decoded sound told at offset cells
      local_cells x ranged) x there row ranged (λ e. cc) refl one.0 (ap (type_test 0x95) is.is_name
      ∙ one.1) refl refl
      (subst (λ ks. RowAgrees by l (a.resolution m) m op ks (Range boolean_range ∷ [])) (one_reference by l w a m read
      decoded sound told at offset cells local_cells x ranged row op there refl on.0 on.1)
      (instanceof by l (a.resolution m) m type is (is_one_of l on.0)))

  pub resolved : (op : JOp) → IsResolved by l (a.resolution m) m cells op → StandsHere op → KeepsHere op
  resolved _ (named_here.a_field {named = named} desc field) there = get_field named there desc field
  resolved _ (named_here.a_put_field {named = named} desc field) there = put_field named there desc field
  resolved _ (named_here.a_static {named = named} desc field) there = get_static named there desc field
  resolved _ (named_here.a_put_static {named = named} desc field) there = put_static named there desc field
  resolved _ (named_here.a_constant {named = named} {z = z} number inside is) there =
      get_constant named z there number inside is
  resolved _ (named_here.a_class {class = class} made named) there = make_object class there made named
  resolved _ (named_here.an_array {class = class} is named spelt) there = make_array class there is named spelt
  resolved _ named_here.booleans there = make_numbers 4 Booleans there booleans_named refl (λ within passes small.
      booleans by l (a.resolution m) m (operand (spans_of x.stack) 0) small within passes)
  resolved _ named_here.bytes there = make_numbers 8 Bytes there bytes_named refl (λ within passes small. bytes by l
      (a.resolution m) m (operand (spans_of x.stack) 0) small within passes)
  resolved _ named_here.shorts there = make_numbers 9 Shorts there shorts_named refl (λ within passes small. shorts by l
      (a.resolution m) m (operand (spans_of x.stack) 0) small within passes)
  resolved _ (named_here.a_cast {type = type} is) there = cast type there is
  resolved _ (named_here.a_test {type = type} is) there = test type there is
