-- Returns of methods that are not in int mode give values of their types, whatever the mode of what goes on with them.
use Rattle.std.proofs.Common.{◌≡◌, ℕ, true, List, [], ◌∷◌, ◌++◌, slice_get, Option, Some, None, refl, sym, ap, subst}
use Rattle.std.proofs.Common.{◌∙◌, ◌+◌, arith}
use Rattle.cjc_bytes.specs.Descriptor.{Part}
use Rattle.cjc_bytes.specs.declared.descriptor.Kind.{Kind as PartKind}
use Rattle.cjc_bytes.specs.declared.descriptor.Kind.TheVariants as part_kinds
use Rattle.cjc_bytes.proofs.Bools.{not_false}
use Rattle.cjc_code.specs.declared.insn.JOp.TheVariants as jop
use Rattle.cjc_script.specs.Sorts.{Sort, Boolean, Byte, Short, Int, Reference, NoValue, result_by}
use Rattle.cjc_world.specs.Classes.{Class}
use Rattle.cjc_types.specs.Fixpoint.Tables.{HasRow}
use Rattle.cjc_types.specs.declared.cell.Cell.{Cell}
use Rattle.cjc_types.specs.declared.cell.Cell.TheVariants.{Number, Refs, Unusable}
use Rattle.cjc_types.specs.declared.state.Stack.TheVariants as stacks
use Rattle.cjc_types.specs.declared.state.State.{State}
use Rattle.cjc_types.specs.Rules.{is_number, is_reference, is_value, returns}
use Rattle.cjc_types.specs.Search.{cells_of}
use Rattle.cjc_types.specs.Steps as typed
use Rattle.cjc_types.specs.Types.{parts}
use Rattle.cjc_intervals.specs.Bounds.{a_result}
use Rattle.cjc_intervals.specs.Frames.{RangeState, spans_of}
use Rattle.cjc_intervals.specs.Steps.{operand}
use Rattle.cjc_ncode.specs.ByLabel.{Named}
use Rattle.cjc_ncode.specs.Written.{written}
use Rattle.cjc_ncode.specs.declared.narrow.NInsn.{NInsn}
use Rattle.cjc_jvm_semantics.specs.Linked.{Method, Linked}
use Rattle.cjc_narrow_proof.specs.Selection.Jumps.{ReturnAgrees}
use Rattle.cjc_narrow_proof.specs.Selection.Relation.{Kind, Range, Refers, Stacks, AllWider, none_wider, one_wider}
use Rattle.cjc_narrow_proof.specs.Selection.Relation.{more_numbers, more_types}
use Rattle.cjc_narrow_proof.specs.Selection.Replies.{result_kinds}
use Rattle.cjc_narrow_proof.specs.Selection.Rows.{is_word_sort}
use Rattle.cjc_narrow_proof.specs.Selection.Tables.{Point, code_of, spot, written_place}
use Rattle.cjc_narrow_proof.specs.Tables.Analysis.{Analysis, CatchesAreTold, IsAlone, IsDecoded, IsRead, IsSound}
use Rattle.cjc_narrow_proof.specs.Tables.Analysis.{TypesAreTold, table_of}
use Rattle.cjc_narrow_proof.specs.Tables.Calls.{IsWordDesc}
use Rattle.cjc_narrow_proof.specs.Tables.Kinds.{is_one_of, kind_of_cell, kinds, point_at, point_of}
use Rattle.cjc_narrow_proof.specs.Tables.Pairs.{StandsAlone, with_open}
use Rattle.cjc_narrow_proof.specs.Tables.Supported.{IsReturn, areturn, ireturn}
use Rattle.cjc_narrow_proof.specs.Tables.Supported as supported
use Rattle.cjc_narrow_proof.proofs.SelectionLaws.Branches.{ireturn as number_out, areturn as reference_out}
use Rattle.cjc_narrow_proof.proofs.SelectionLaws.Branches.{returns as nothing_out}
use Rattle.cjc_narrow_proof.proofs.TablesLaws.Arrivals.{is_cells}
use Rattle.cjc_narrow_proof.proofs.TablesLaws.Passed.{word_result}
use Rattle.cjc_narrow_proof.proofs.TablesLaws.Plain.{t, Stands, IsRow, typed_here, word, within, number_is}
use Rattle.cjc_narrow_proof.proofs.TablesLaws.Plain.{reference_is}
use Rattle.cjc_narrow_proof.proofs.TablesLaws.Plain.{one_number, one_reference}
use Rattle.cjc_narrow_proof.proofs.TablesLaws.Points.{point_from, point_under}
use Rattle.cjc_narrow_proof.proofs.TablesLaws.Rows.{first_there, rest, stack_before}
use Rattle.cjc_narrow_proof.proofs.TablesLaws.Values.{result_wider}
use Rattle.cjc_int_runs.specs.ByModes.{ShortRule, gives, WordFits, no_value_given, a_word_given, a_reference_given}
use Rattle.cjc_int_runs.specs.IntFrames.{IntBody}
use Rattle.cjc_int_alike.specs.Callees.{IsShortBegun}

-- cells that are known as a result's type says fit it, where it has one word
words_fit : (l : Named) (o : Option Sort) → ((sort : Sort) → o ≡ Some sort → is_word_sort sort ≡ true)
    → (ks : List Kind) → AllWider ks (result_kinds l o) → WordFits l o ks
words_fit l None word _ none_wider = no_value_given
words_fit l (Some Boolean) word _ (one_wider (more_numbers h) none_wider) = a_word_given refl h
words_fit l (Some Byte) word _ (one_wider (more_numbers h) none_wider) = a_word_given refl h
words_fit l (Some Short) word _ (one_wider (more_numbers h) none_wider) = a_word_given refl h
words_fit l (Some (Reference shape)) word _ (one_wider (more_types h) none_wider) = a_reference_given h
words_fit l (Some Int) word ks h = let e = word Int refl in cc
words_fit l (Some NoValue) word ks h = let e = word NoValue refl in cc

number_result : (w : List Class) (k : PartKind) (class : List ℕ) (c : Cell) → returns 0xAC k ≡ true
    → is_value w k class c ≡ true → is_number c ≡ true
number_result w part_kinds.Bool class c e h = h
number_result w part_kinds.Byte class c e h = h
number_result w part_kinds.Short class c e h = h
number_result w part_kinds.Int class c e h = h
number_result w part_kinds.Other class c e h = cc
number_result w part_kinds.Ref class c e h = cc
number_result w part_kinds.Void class c e h = cc

reference_result : (w : List Class) (k : PartKind) (class : List ℕ) (c : Cell) → returns 0xB0 k ≡ true
    → is_value w k class c ≡ true → is_reference c ≡ true
reference_result w part_kinds.Bool class c e h = cc
reference_result w part_kinds.Byte class c e h = cc
reference_result w part_kinds.Short class c e h = cc
reference_result w part_kinds.Int class c e h = cc
reference_result w part_kinds.Other class c e h = cc
reference_result w part_kinds.Ref class c e h = all c h
  where
    all : (c : Cell) → is_value w part_kinds.Ref class c ≡ true → is_reference c ≡ true
    all Number h = cc
    all (Refs names) h = refl
    all Unusable h = cc
reference_result w part_kinds.Void class c e h = cc

no_result : (l : Named) (p : Part) (k : PartKind) → returns 0xB1 k ≡ true → result_by k p ≡ None
no_result l p part_kinds.Bool e = cc
no_result l p part_kinds.Byte e = cc
no_result l p part_kinds.Short e = cc
no_result l p part_kinds.Int e = cc
no_result l p part_kinds.Other e = cc
no_result l p part_kinds.Ref e = cc
no_result l p part_kinds.Void e = refl

module _ (by : Linked) (l : Named) (w : List Class) (a : Analysis) (bodies : Method → Option IntBody)
    (results : Method → Option Sort) (m : Method) (read : IsRead a m)
    (decoded : IsDecoded (let f = a.found m in f.body)) (sound : IsSound w (let r = a.resolution m
    in r.constant) (a.found m)) (told : CatchesAreTold by l a m) (types : TypesAreTold w l)
    (desc : IsWordDesc (let f = a.found m in let b = f.body in b.desc))
    (given : results m ≡ (let f = a.found m in let b = f.body in let d = parts b.desc in let p = d.result
    in result_by p.kind p))
    (at offset : ℕ) (cells local_cells : List Cell) (x : RangeState) (ranged : IsAlone a m at x)
    (row : IsRow by l w a m read decoded sound told at offset cells local_cells x ranged) where
  abbrev result : Part
  result = let f = a.found m in let b = f.body in let d = parts b.desc in d.result

  abbrev StandsHere : (opcode : ℕ) → Type 0
  StandsHere opcode = Stands by l w a m read decoded sound told at offset cells local_cells x ranged (jop.Return opcode)

  abbrev state : State
  state = t by l w a m read decoded sound told at offset cells local_cells x ranged

  abbrev Gives : (opcode : ℕ) → Type 0
  Gives opcode = ShortRule by l (table_of l a) bodies results m at (point_of l state x) (record {
    at = offset;
    op = jop.Return opcode;
  })

  is_kind : (opcode : ℕ) → StandsHere opcode → returns opcode result.kind ≡ true
  is_kind opcode there = let h = typed_here by l w a m read decoded sound told at offset cells local_cells x ranged row
      (jop.Return opcode) there in not_false (returns opcode result.kind) h.result

  fits : (ks : List Kind) → AllWider ks (result_kinds l (result_by result.kind result)) → WordFits l (results m) ks
  fits ks h = subst (λ o. WordFits l o ks) (sym given) (words_fit l (result_by result.kind result)
      (λ sort e. word_result result desc.result sort e) ks h)

  top_given : (opcode : ℕ) → StandsHere opcode → 1 ≡ typed.takes (jop.Return opcode)
      → AllWider (kind_of_cell l (typed.operand cells 0) (operand (spans_of x.stack) 0) ∷ [])
      (result_kinds l (result_by result.kind result))
  top_given opcode there some =
      let h = typed_here by l w a m read decoded sound told at offset cells local_cells x ranged row (jop.Return opcode)
      there in
      result_wider w l types result (typed.operand cells 0) (operand (spans_of x.stack) 0)
      (h.operands 0 (omega (arith, some)))
      (word by l w a m read decoded sound told at offset cells local_cells x ranged row (jop.Return opcode) there 0)
      (λ rule s bound. within by l w a m read decoded sound told at offset cells local_cells x ranged row
      (jop.Return opcode) there rule 0 s (a_result bound))

  -- with these cells on top
  by_cells : (opcode : ℕ) (there : StandsHere opcode) (insn : NInsn) → ((place : ℕ → ℕ)
      → written (a.resolution m) place (jop.Return opcode) ≡ insn ∷ []) → (ks : List Kind) → kinds l cells
      (spans_of x.stack) ≡ ks ++ rest by l w a m read decoded sound told at offset (jop.Return opcode) state x there row
      ranged → ReturnAgrees by l (a.resolution m) m (jop.Return opcode) ks
      → AllWider ks (result_kinds l (result_by result.kind result)) → Gives opcode
  by_cells opcode there insn is ks stack agrees wider =
      gives insn ks (first_there by l w a m read decoded sound told at offset (jop.Return opcode) state x there row
      ranged insn [] (is (written_place (table_of l a) m)))
      (λ locals words store memory vs ws held. agrees (written_place (table_of l a) m) insn
      (is (written_place (table_of l a) m)) (let code = code_of (table_of l a) m in code.max_stack) at
      (spot (table_of l a) m at + 1) (rest by l w a m read decoded sound told at offset (jop.Return opcode) state x
      there row ranged) vs ws locals words store memory (subst (λ kinds. Stacks memory.heap kinds vs ws) stack held))
      (fits ks wider)

  number_gives : StandsHere 0xAC → Gives 0xAC
  number_gives there =
      let op = jop.Return 0xAC in
      let h = typed_here by l w a m read decoded sound told at offset cells local_cells x ranged row op there in
      let is = number_is (typed.operand cells 0) (number_result w result.kind result.class (typed.operand cells 0)
      (is_kind 0xAC there) (h.operands 0 (omega arith))) in
      let top = one_number by l w a m read decoded sound told at offset cells local_cells x ranged row op there refl is
      in
      by_cells 0xAC there _ (λ place. refl) (Range (operand (spans_of x.stack) 0) ∷ [])
      (stack_before by l w a m read decoded sound told at offset op state x there row ranged
      ∙ ap (λ ks. ks ++ rest by l w a m read decoded sound told at offset op state x there row ranged) (sym top))
      (number_out by l (a.resolution m) m (operand (spans_of x.stack) 0))
      (subst (λ c. AllWider (kind_of_cell l c (operand (spans_of x.stack) 0) ∷ [])
      (result_kinds l (result_by result.kind result))) is (top_given 0xAC there refl))

  reference_gives : StandsHere 0xB0 → Gives 0xB0
  reference_gives there =
      let op = jop.Return 0xB0 in
      let h = typed_here by l w a m read decoded sound told at offset cells local_cells x ranged row op there in
      let is = reference_is (typed.operand cells 0) (reference_result w result.kind result.class (typed.operand cells 0)
      (is_kind 0xB0 there) (h.operands 0 (omega arith))) in
      let top = one_reference by l w a m read decoded sound told at offset cells local_cells x ranged row op there refl
      is.0 is.1 in
      by_cells 0xB0 there _ (λ place. refl) (Refers (is_one_of l is.0) ∷ [])
      (stack_before by l w a m read decoded sound told at offset op state x there row ranged
      ∙ ap (λ ks. ks ++ rest by l w a m read decoded sound told at offset op state x there row ranged) (sym top))
      (reference_out by l (a.resolution m) m (is_one_of l is.0))
      (subst (λ c. AllWider (kind_of_cell l c (operand (spans_of x.stack) 0) ∷ [])
      (result_kinds l (result_by result.kind result))) is.1 (top_given 0xB0 there refl))

  nothing_gives : StandsHere 0xB1 → Gives 0xB1
  nothing_gives there =
      let op = jop.Return 0xB1 in
      by_cells 0xB1 there _ (λ place. refl) []
      (stack_before by l w a m read decoded sound told at offset op state x there row ranged)
      (nothing_out by l (a.resolution m) m)
      (subst (λ o. AllWider [] (result_kinds l o)) (sym (no_result l result result.kind (is_kind 0xB1 there)))
      none_wider)

  pub return_gives : (opcode : ℕ) → IsReturn opcode → StandsHere opcode → Gives opcode
  return_gives _ ireturn there = number_gives there
  return_gives _ areturn there = reference_gives there
  return_gives _ supported.returns there = nothing_gives there

-- ---- at a point of the table

-- A return that stands in no pair gives a value of the method's type.
pub return_at : (by : Linked) (l : Named) (w : List Class) (a : Analysis) (bodies : Method → Option IntBody)
    (results : Method → Option Sort) (m : Method) → IsShortBegun by l w a bodies results m → TypesAreTold w l
    → (at offset opcode : ℕ) (p : Point) → StandsAlone (a.resolution m) (let f = a.found m in let b = f.body
    in b.insns) (a.opened m) at → slice_get (let f = a.found m in let b = f.body in b.insns) at ≡ Some (record {
      at = offset;
      op = jop.Return opcode;
    }) → (let tb = table_of l a in tb.point m at ≡ Some p) → IsReturn opcode
    → ShortRule by l (table_of l a) bodies results m at p (record { at = offset; op = jop.Return opcode })
return_at by l w a bodies results m begun types at offset opcode p alone there known is =
    let whole = begun.whole in
    let f = a.found m in
    let q = point_under (point_at l f.types f.ranges at) (a.opened m at) p known in
    let h = point_from l (slice_get f.types at) (slice_get f.ranges at) q.0 q.1 in
    let u = h.typed in
    let cells = is_cells l w (let r = a.resolution m in r.constant) f whole.sound at u h.has_types in
    let row : HasRow f.types at (record { stack = stacks.Cells (cells_of u.stack); locals = u.locals }) =
    subst (λ s. HasRow f.types at (record { stack = s; locals = u.locals })) cells h.has_types in
    subst (λ q. ShortRule by l (table_of l a) bodies results m at q (record { at = offset; op = jop.Return opcode }))
    (sym (q.2 ∙ ap (λ o. with_open o q.0) alone.before ∙ h.is))
    (return_gives by l w a bodies results m whole.read whole.decoded whole.sound whole.told types begun.desc begun.given
    at offset (cells_of u.stack) u.locals h.ranged (record { row = h.has_ranges; stands = alone }) row opcode is there)
