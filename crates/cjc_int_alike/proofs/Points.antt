-- Each reached instruction of a method in int mode is typed, by its tables.
use Rattle.std.proofs.Common.{◌≡◌, ◌≤◌, ◌+◌, ℕ, Bool, true, false, List, length, slice_get, Option, Some, refl, sym, ap}
use Rattle.std.proofs.Common.{subst, ◌∙◌, arith}
use Rattle.std.specs.Prelude.{nat_le}
use Rattle.std.proofs.lemmas.Bool.Decides.{nat_tests}
use Rattle.std.proofs.lemmas.List.{length-map}
use Rattle.cjc_bytes.specs.declared.fault.MemberId.{MemberId}
use Rattle.cjc_code.specs.declared.insn.JInsn.{JInsn}
use Rattle.cjc_code.specs.declared.insn.JOp.{JOp}
use Rattle.cjc_code.specs.declared.insn.JOp.TheVariants as jop
use Rattle.cjc_script.specs.Sorts.{Shape, Signature, Sort, signature_of, sort_of}
use Rattle.cjc_world.specs.Classes.{Class}
use Rattle.cjc_types.specs.Fixpoint.Tables.{HasRow}
use Rattle.cjc_types.specs.declared.cell.Cell.{Cell}
use Rattle.cjc_types.specs.declared.state.Stack.TheVariants as stacks
use Rattle.cjc_types.specs.Search.{cells_of}
use Rattle.cjc_types.specs.Steps.{receivers, takes}
use Rattle.cjc_types.specs.Types.{parts}
use Rattle.cjc_intervals.specs.Frames.{RangeState}
use Rattle.cjc_card_semantics.specs.Bytecode.Machine.{Start}
use Rattle.cjc_ncode.specs.declared.narrow.NMethod.{NMethod}
use Rattle.cjc_ncode.specs.ByLabel.{Named}
use Rattle.cjc_ncode.specs.Written.{Resolution}
use Rattle.cjc_jvm_semantics.specs.Linked.{Method, Linked}
use Rattle.cjc_jvm_semantics.specs.Machine.{Frame}
use Rattle.cjc_narrow_proof.specs.Selection.Calls.{NFrame}
use Rattle.cjc_narrow_proof.specs.Selection.Relation.{NMemory}
use Rattle.cjc_narrow_proof.specs.Tables.Analysis.{Found, TypesAreTold}
use Rattle.cjc_narrow_proof.specs.Tables.Arrays.{ClassesAreNamed}
use Rattle.cjc_narrow_proof.specs.Tables.Calls.{count_of, types_of}
use Rattle.cjc_narrow_proof.specs.Tables.Supported.{ireturn, areturn}
use Rattle.cjc_narrow_proof.specs.Tables.Supported as supported
use Rattle.cjc_int_mode.specs.Room.{high_stack}
use Rattle.cjc_int_mode.specs.Written.{stack_words}
use Rattle.cjc_int_runs.specs.IntFrames.{IntPoint}
use Rattle.cjc_int_runs.specs.Typed.{IntTyped, IntMethodIsTyped, TellsClasses}
use Rattle.cjc_int_alike.specs.Calls.{GivesResult, IsIntDesc, IsIntSupported, AreIntSupported, MayThrowThrowables}
use Rattle.cjc_int_alike.specs.Calls.{names_nothing, is_resolved, is_on_array, returns, throws, calls, on_class}
use Rattle.cjc_int_alike.specs.Calls.{on_receiver}
use Rattle.cjc_int_alike.specs.Names.{as_outside}
use Rattle.cjc_int_alike.specs.Method.{IsIntWhole, int_body, int_point_at}
use Rattle.cjc_int_alike.proofs.Arrivals.{is_cells, is_typed}
use Rattle.cjc_int_alike.proofs.Calls.{called_typed}
use Rattle.cjc_int_alike.proofs.Elements.{array_step}
use Rattle.cjc_int_alike.proofs.Plain.{plain_step}
use Rattle.cjc_int_alike.proofs.Resolved.{resolved_step}
use Rattle.cjc_int_alike.proofs.Returns.{number_return, plain_return, reference_return, signature_is, throws_on}
use Rattle.cjc_int_alike.proofs.Rows.{Typed, typed_by_step}
use Rattle.cjc_int_alike.proofs.Written.{int_point_from}

module _ (by : Linked) (l : Named) (Here : NMemory → Frame → NFrame → Type 0) (results : Method → Option Sort)
    (narrowed : Method → Start NMethod) (may_throw : Shape (List ℕ) → Bool) (w : List Class) (r : Resolution)
    (f : Found) (code : NMethod) (m : Method) (whole : IsIntWhole by l may_throw w r f m) (types : TypesAreTold w l)
    (named : ClassesAreNamed w l) (may : MayThrowThrowables by l Here results narrowed may_throw r m)
    (gives : GivesResult results f m) where
  -- at a row of each table, the stack of types being no clash
  at_rows : (at offset : ℕ) (cells local_cells : List Cell) (x : RangeState) (ranged : HasRow f.ranges at x)
      (row : HasRow f.types at (record { stack = stacks.Cells cells; locals = local_cells })) (op : JOp)
      → IsIntSupported by l Here results narrowed may_throw r m cells op
      → (there : slice_get f.body.insns at ≡ Some (record { at = offset; op = op }))
      → Typed by l Here results narrowed may_throw w r f code m whole at offset op
      (record { stack = stacks.Cells cells; locals = local_cells }) x there row ranged
  at_rows at offset cells local_cells x ranged row op (names_nothing is) there =
      typed_by_step by l Here results narrowed may_throw w r f code m whole at offset op _ x there row ranged
      (plain_step by l w r f m whole.decoded whole.sound at offset cells local_cells x ranged row op is there)
  at_rows at offset cells local_cells x ranged row op (is_resolved is) there =
      typed_by_step by l Here results narrowed may_throw w r f code m whole at offset op _ x there row ranged
      (resolved_step by l w r f m whole.decoded whole.sound types at offset cells local_cells x ranged row op is there)
  at_rows at offset cells local_cells x ranged row op (is_on_array is) there =
      typed_by_step by l Here results narrowed may_throw w r f code m whole at offset op _ x there row ranged
      (array_step by l w r f m whole.decoded whole.sound may_throw whole.told types named at offset cells local_cells x
      ranged row op is there)
  at_rows at offset cells local_cells x ranged row _ (returns ireturn) there =
      number_return by l Here results narrowed may_throw w r f code m whole types at offset cells local_cells x ranged
      row gives there
  at_rows at offset cells local_cells x ranged row _ (returns areturn) there =
      reference_return by l Here results narrowed may_throw w r f code m whole types at offset cells local_cells x
      ranged row gives there
  at_rows at offset cells local_cells x ranged row _ (returns supported.returns) there =
      plain_return by l Here results narrowed may_throw w r f code m whole types at offset cells local_cells x ranged
      row gives there
  at_rows at offset cells local_cells x ranged row _ throws there =
      throws_on by l Here results narrowed may_throw w r f code m whole types at offset cells local_cells x ranged row
      may there
  at_rows at offset cells local_cells x ranged row op (calls is) there =
      called_typed by l Here results narrowed may_throw w r f code m whole types at offset cells local_cells x ranged
      row op is there

  typed_at : AreIntSupported by l Here results narrowed may_throw r m f → (at : ℕ) (p : IntPoint) (i : JInsn)
      → int_point_at l f at ≡ Some p → slice_get m.insns at ≡ Some i
      → IntTyped by l Here results narrowed may_throw (int_body l r f code) m at p i
  typed_at supported at p i known there =
      let h = int_point_from l (slice_get f.body.insns at) (slice_get f.types at) (slice_get f.ranges at) p known in
      let j = h.i in
      let t = h.typed in
      let cells = is_cells l w r.constant f whole.sound at t h.has_types in
      let row : HasRow f.types at (record { stack = stacks.Cells (cells_of t.stack); locals = t.locals }) =
      subst (λ s. HasRow f.types at (record { stack = s; locals = t.locals })) cells h.has_types in
      let same : Some j ≡ Some i = sym h.is_insn ∙ ap (λ insns. slice_get insns at) (sym (let read = whole.read
      in read.insns)) ∙ there in
      let one : j ≡ i = cc in
      subst (λ k. IntTyped by l Here results narrowed may_throw (int_body l r f code) m at p k) one
      (subst (λ q. IntTyped by l Here results narrowed may_throw (int_body l r f code) m at q j) (sym h.is)
      (at_rows at j.at (cells_of t.stack) t.locals h.ranged h.has_ranges row j.op (supported at j t h.is_insn
      h.has_types) h.is_insn))

  -- ---- calls

  desc_of : (cells : List Cell) (opcode : ℕ) (id : MemberId)
      → IsIntSupported by l Here results narrowed may_throw r m cells (jop.Call opcode id) → IsIntDesc id.desc
  desc_of cells opcode id (names_nothing is) = elim is [ ]
  desc_of cells opcode id (is_resolved is) = elim is [ ]
  desc_of cells opcode id (is_on_array (as_outside is)) = elim is [ ]
  desc_of cells _ id (calls (on_class callee desc names reaches)) = desc
  desc_of cells opcode id (calls (on_receiver callee desc names one reaches)) = desc

  -- 417: the stack has less than 128 cells
  low_stack : (let b = f.body in b.max_stack) ≤ 255
  low_stack = tested (nat_le (stack_words f.body) 255) refl
    where
      tested : (b : Bool) → nat_le (stack_words f.body) 255 ≡ b → (let b = f.body in b.max_stack) ≤ 255
      tested true e = let low : stack_words f.body ≤ 255 = grind (arith, nat_tests, e) in omega (arith, low)
      tested false e = absurd ((let s = whole.sound in s.room) (high_stack (grind (arith, nat_tests, e))))

  -- a reached call takes no more parameters than the stack has cells
  few_at : AreIntSupported by l Here results narrowed may_throw r m f → (opcode : ℕ) (id : MemberId)
      (signature : Signature) (at : ℕ) (p : IntPoint) (i : JInsn) → int_point_at l f at ≡ Some p
      → slice_get m.insns at ≡ Some i → i.op ≡ jop.Call opcode id → signature_of id.desc ≡ Some signature
      → length signature.params ≤ 255
  few_at supported opcode id signature at p i known there is_call has =
      let h = int_point_from l (slice_get f.body.insns at) (slice_get f.types at) (slice_get f.ranges at) p known in
      let j = h.i in
      let t = h.typed in
      let same : Some j ≡ Some i = sym h.is_insn ∙ ap (λ insns. slice_get insns at) (sym (let read = whole.read
      in read.insns)) ∙ there in
      let one : j ≡ i = cc in
      let op : j.op ≡ jop.Call opcode id = ap (λ (k : JInsn). k.op) one ∙ is_call in
      let row = is_typed l w r.constant f whole.sound at j t h.is_insn h.has_types in
      let enough = row.there in
      let room = row.room in
      let takes_all : takes j.op ≡ count_of id.desc + receivers opcode = ap takes op in
      let desc = desc_of (cells_of t.stack) opcode id (subst (IsIntSupported by l Here results narrowed may_throw r m
      (cells_of t.stack)) op (supported at j t h.is_insn h.has_types)) in
      let spelt : Some (types_of id.desc) ≡ Some signature = sym (signature_is id.desc desc) ∙ has in
      let is : types_of id.desc ≡ signature = cc in
      let long : length signature.params ≡ count_of id.desc = ap (λ (s : Signature). length s.params) (sym is)
      ∙ length-map (let d = parts id.desc in d.params) sort_of in
      let low = low_stack in
      omega (arith, enough, room, takes_all, long, low)

  -- so is each reached instruction
  pub method_typed : AreIntSupported by l Here results narrowed may_throw r m f
      → IntMethodIsTyped by l Here results narrowed may_throw (int_body l r f code) m
  method_typed supported = record { typed = typed_at supported; few_params = few_at supported }

pub classes_told : (by : Linked) (l : Named) (Here : NMemory → Frame → NFrame → Type 0)
    (results : Method → Option Sort) (narrowed : Method → Start NMethod) (may_throw : Shape (List ℕ) → Bool)
    (w : List Class) (r : Resolution) (f : Found) (code : NMethod) (m : Method) → IsIntWhole by l may_throw w r f m
    → TellsClasses by l Here results narrowed may_throw (int_body l r f code) m
classes_told by l Here results narrowed may_throw w r f code m whole kind may class =
    (let told = whole.told in told.tells) kind class
