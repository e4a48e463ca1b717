-- At a point of the table both tables have a row.
use Rattle.std.proofs.Common.{◌≡◌, ℕ, suc, ◌+◌, true, false, refl, sym, ap, subst, ◌∙◌, arith, List, slice_get}
use Rattle.std.proofs.Common.{Option, Some, None}
use Rattle.std.specs.Prelude.{option_map}
use Rattle.cjc_code.specs.declared.insn.JInsn.{JInsn}
use Rattle.cjc_code.specs.declared.insn.JOp.{JOp}
use Rattle.cjc_code.specs.declared.insn.JOp.TheVariants as jop
use Rattle.cjc_types.specs.Fixpoint.Tables.{HasRow}
use Rattle.cjc_world.specs.Classes.{Class}
use Rattle.cjc_types.specs.declared.state.Stack.TheVariants as stacks
use Rattle.cjc_types.specs.declared.cell.Cell.{Cell}
use Rattle.cjc_types.specs.declared.state.State.{State}
use Rattle.cjc_types.specs.Search.{cells_of}
use Rattle.cjc_ncode.specs.ByLabel.{Named}
use Rattle.cjc_jvm_semantics.specs.Linked.{Method, Linked}
use Rattle.cjc_intervals.specs.Frames.{RangeState}
use Rattle.cjc_narrow_proof.specs.Selection.Tables.{Point}
use Rattle.cjc_narrow_proof.specs.Selection.Runs.{Rule, RuleWithin}
use Rattle.cjc_narrow_proof.specs.Tables.Kinds.{point_at, point_of, point_where}
use Rattle.cjc_narrow.specs.Pairs.Open.{Open, closed}
use Rattle.cjc_narrow_proof.specs.Tables.Pairs.{IsInPair, StandsAlone, with_open}
use Rattle.cjc_narrow_proof.proofs.TablesLaws.Pairs.{pair_rule}
use Rattle.cjc_narrow_proof.specs.Tables.Analysis.{Analysis, IsAlone, IsDecoded, IsSound, IsRead, CatchesAreTold}
use Rattle.cjc_narrow_proof.specs.Tables.Analysis.{TypesAreTold}
use Rattle.cjc_narrow_proof.specs.Tables.Analysis.{IsGiven, ThrowablesMay, table_of}
use Rattle.cjc_narrow_proof.specs.Tables.Supported.{IsPlain, IsReturn, ireturn, areturn, returns}
use Rattle.cjc_narrow_proof.specs.Tables.Names.{IsResolved}
use Rattle.cjc_narrow_proof.specs.Tables.Arrays.{ClassesAreNamed, IsOnArray}
use Rattle.cjc_narrow_proof.specs.Tables.Calls.{IsCalled, a_static, an_import, on_receiver}
use Rattle.cjc_narrow_proof.specs.Tables.Package.{IsSupported, AreSupported, leaves_frame}
use Rattle.cjc_narrow_proof.specs.Tables.Package as supported_by
use Rattle.cjc_narrow_proof.proofs.TablesLaws.Elements.{on_array}
use Rattle.cjc_narrow_proof.proofs.TablesLaws.Called.{called_rule}
use Rattle.cjc_narrow_proof.specs.Selection.Tables.{MayRaise}
use Rattle.cjc_narrow_proof.specs.Selection.Reached.{IsAnswered}
use Rattle.cjc_narrow_proof.proofs.TablesLaws.Arrivals.{is_cells}
use Rattle.cjc_narrow_proof.proofs.TablesLaws.Plain.{keeps}
use Rattle.cjc_narrow_proof.proofs.TablesLaws.Returns.{number_return, reference_return, plain_return}
use Rattle.cjc_narrow_proof.proofs.TablesLaws.Resolved.{resolved}
use Rattle.cjc_narrow_proof.proofs.TablesLaws.Begins.{throws_on}

-- both rows of a point, the stack of types being no clash
pub record IsPointOf (l : Named) (types : Option (Option State)) (ranges : Option (Option RangeState)) (p : Point) :
    Type 0 where
  pub typed : State
  pub has_types : types ≡ Some (Some typed)
  pub ranged : RangeState
  pub has_ranges : ranges ≡ Some (Some ranged)
  pub is : p ≡ point_of l typed ranged

-- where no pair is open
said_closed : (known : Option Point) (p : Point) {o : Open} → o ≡ closed → option_map (with_open o) known ≡ Some p
    → known ≡ Some p
said_closed None p out e = absurd cc
said_closed (Some q) p out e = ap (λ o. Some (with_open o q)) (sym out) ∙ e

-- whichever is
pub point_under : (known : Option Point) (o : Open) (p : Point) → option_map (with_open o) known ≡ Some p
    → (q : Point) × (known ≡ Some q) × (p ≡ with_open o q)
point_under None o p e = cc
point_under (Some q) o p e = (q, refl, (let same : with_open o q ≡ p = cc in sym same))

pub point_from : (l : Named) (types : Option (Option State)) (ranges : Option (Option RangeState)) (p : Point)
    → point_where l types ranges ≡ Some p → IsPointOf l types ranges p
point_from l None ranges p e = cc
point_from l (Some None) ranges p e = cc
point_from l (Some (Some t)) None p e = cc
point_from l (Some (Some t)) (Some None) p e = cc
point_from l (Some (Some t)) (Some (Some x)) p e = record {
  typed = t;
  has_types = refl;
  ranged = x;
  has_ranges = refl;
  is = (let same : point_of l t x ≡ p = cc in sym same);
}

call_leaves : (by : Linked) (l : Named) (w : List Class) (a : Analysis) (m : Method) (cells : List Cell) (op : JOp)
    → IsCalled by l w a m cells op → leaves_frame op ≡ true
call_leaves by l w a m cells _ (a_static named is callee by_name narrow reached) = refl
call_leaves by l w a m cells _ (an_import named is event by_name narrow asked) = refl
call_leaves by l w a m cells _ (on_receiver named is selects) = refl

module _ (by : Linked) (l : Named) (w : List Class) (a : Analysis) (m : Method) (read : IsRead a m)
    (decoded : IsDecoded (let f = a.found m in f.body)) (sound : IsSound w (let r = a.resolution m
    in r.constant) (a.found m)) (told : CatchesAreTold by l a m) where
  -- what holds at each pair of rows holds at a point where no pair is open
  at_point : (at : ℕ) (i : JInsn) (p : Point) → StandsAlone (a.resolution m)
      (let f = a.found m in let b = f.body in b.insns) (a.opened m) at
      → (let tb = table_of l a in tb.point m at ≡ Some p)
      → ((cells local_cells : List Cell) (x : RangeState) → (ranged : IsAlone a m at x)
      → HasRow (let f = a.found m in f.types) at (record { stack = stacks.Cells cells; locals = local_cells })
      → Rule by l (table_of l a) m at (point_of l (record { stack = stacks.Cells cells; locals = local_cells }) x)
      i) → Rule by l (table_of l a) m at p i
  at_point at i p alone known go =
      let h = point_from l (slice_get (let f = a.found m in f.types) at) (slice_get (let f = a.found m in f.ranges) at)
      p (said_closed (let f = a.found m in point_at l f.types f.ranges at) p alone.before known) in
      let t = h.typed in
      let cells = is_cells l w (let r = a.resolution m in r.constant) (a.found m) sound at t h.has_types in
      let whole : HasRow (let f = a.found m in f.types) at (record {
        stack = stacks.Cells (cells_of t.stack);
        locals = t.locals;
      }) = subst (λ s. HasRow (let f = a.found m in f.types) at (record {
        stack = s;
        locals = t.locals;
      })) cells h.has_types in
      subst (λ q. Rule by l (table_of l a) m at q i) (sym h.is) (go (cells_of t.stack) t.locals h.ranged
      (record { row = h.has_ranges; stands = alone }) whole)

  pub plain_rule : (at : ℕ) (i : JInsn) (p : Point)
      → StandsAlone (a.resolution m) (let f = a.found m in let b = f.body in b.insns) (a.opened m) at
      → slice_get (let f = a.found m in let b = f.body in b.insns) at
      ≡ Some i → (let tb = table_of l a in tb.point m at ≡ Some p) → IsPlain i.op → Rule by l (table_of l a) m at p i
  plain_rule at i p alone there known is =
      at_point at i p alone known (λ cells local_cells x ranged row. (let r = keeps by l w a m read decoded sound
      told at i.at cells local_cells x ranged row i.op is there in r.rule))

  pub resolved_rule : TypesAreTold w l → (at : ℕ) (i : JInsn) (p : Point)
      → StandsAlone (a.resolution m) (let f = a.found m in let b = f.body in b.insns) (a.opened m) at
      → slice_get (let f = a.found m
      in let b = f.body in b.insns) at ≡ Some i → (let tb = table_of l a in tb.point m at ≡ Some p)
      → ((t : State) → HasRow (let f = a.found m in f.types) at t
      → IsResolved by l (a.resolution m) m (cells_of t.stack) i.op) → Rule by l (table_of l a) m at p i
  resolved_rule types at i p alone there known is =
      at_point at i p alone known (λ cells local_cells x ranged row. (let r = resolved by l w a m read decoded
      sound told types at i.at cells local_cells x ranged row i.op (is (record {
        stack = stacks.Cells cells;
        locals = local_cells;
      }) row) there in r.rule))

  -- the opcode is one of the three returns
  pub return_rule : TypesAreTold w l → IsGiven l a m → (at offset opcode : ℕ) (p : Point)
      → StandsAlone (a.resolution m) (let f = a.found m in let b = f.body in b.insns) (a.opened m) at
      → slice_get (let f = a.found m
      in let b = f.body in b.insns) at ≡ Some (record { at = offset; op = jop.Return opcode })
      → (let tb = table_of l a in tb.point m at ≡ Some p) → IsReturn opcode
      → Rule by l (table_of l a) m at p (record { at = offset; op = jop.Return opcode })
  return_rule types given at offset _ p alone there known ireturn =
      at_point at _ p alone known (λ cells local_cells x ranged row. number_return by l w a m read decoded sound told
      types
      given at offset cells local_cells x ranged row there)
  return_rule types given at offset _ p alone there known areturn =
      at_point at _ p alone known (λ cells local_cells x ranged row. reference_return by l w a m read decoded sound
      told types
      given at offset cells local_cells x ranged row there)
  return_rule types given at offset _ p alone there known returns =
      at_point at _ p alone known (λ cells local_cells x ranged row. plain_return by l w a m read decoded sound told
      types
      given at offset cells local_cells x ranged row there)

  pub throw_rule : TypesAreTold w l → ThrowablesMay l a → (at offset : ℕ) (p : Point)
      → StandsAlone (a.resolution m) (let f = a.found m in let b = f.body in b.insns) (a.opened m) at
      → slice_get (let f = a.found m
      in let b = f.body in b.insns) at ≡ Some (record { at = offset; op = jop.Throw })
      → (let tb = table_of l a in tb.point m at ≡ Some p) → Rule by l (table_of l a) m at p (record {
        at = offset;
        op = jop.Throw;
      })
  throw_rule types may at offset p alone there known =
      at_point at _ p alone known (λ cells local_cells x ranged row. (let r = throws_on by l w a m read decoded
      sound told types may at offset cells local_cells x ranged row there in r.rule))

  pub array_rule : TypesAreTold w l → ClassesAreNamed w l → (at : ℕ) (i : JInsn) (p : Point)
      → StandsAlone (a.resolution m) (let f = a.found m in let b = f.body in b.insns) (a.opened m) at
      → slice_get (let f = a.found m in let b = f.body in b.insns) at ≡ Some i
      → (let tb = table_of l a in tb.point m at ≡ Some p) → IsOnArray i.op → Rule by l (table_of l a) m at p i
  array_rule types named at i p alone there known is =
      at_point at i p alone known (λ cells local_cells x ranged row. (let r = on_array by l w a m read decoded
      sound told types named at i.at cells local_cells x ranged row i.op is there in r.rule))

  pub call_rule : TypesAreTold w l → MayRaise l (table_of l a) → IsAnswered by l (table_of l a)
      → (at : ℕ) (i : JInsn) (p : Point) → StandsAlone (a.resolution m)
      (let f = a.found m in let b = f.body in b.insns) (a.opened m) at
      → slice_get (let f = a.found m in let b = f.body in b.insns) at ≡ Some i
      → (let tb = table_of l a in tb.point m at ≡ Some p) → ((t : State) → HasRow (let f = a.found m in f.types) at t
      → IsCalled by l w a m (cells_of t.stack) i.op) → Rule by l (table_of l a) m at p i
  call_rule types may_raise answered at i p alone there known is =
      at_point at i p alone known (λ cells local_cells x ranged row. called_rule by l w a m read decoded sound told
      types
      may_raise answered at i.at cells local_cells x ranged row i.op (is (record {
        stack = stacks.Cells cells;
        locals = local_cells;
      }) row) there)

  -- each instruction that is supported and stays in the frame
  stays_here : TypesAreTold w l → ClassesAreNamed w l → ThrowablesMay l a → (at offset : ℕ)
      (cells local_cells : List Cell) (x : RangeState) (ranged : IsAlone a m at x)
      → HasRow (let f = a.found m in f.types) at (record { stack = stacks.Cells cells; locals = local_cells })
      → (op : JOp) → IsSupported by l w a m cells op → leaves_frame op ≡ false
      → slice_get (let f = a.found m in let b = f.body in b.insns) at ≡ Some (record { at = offset; op = op })
      → RuleWithin by l (table_of l a) m at (point_of l (record { stack = stacks.Cells cells; locals = local_cells }) x)
      (record { at = offset; op = op })
  stays_here types named may at offset cells local_cells x ranged row op (supported_by.names_nothing is) stays there =
      keeps by l w a m read decoded sound told at offset cells local_cells x ranged row op is there
  stays_here types named may at offset cells local_cells x ranged row op (supported_by.is_resolved is) stays there =
      resolved by l w a m read decoded sound told types at offset cells local_cells x ranged row op is there
  stays_here types named may at offset cells local_cells x ranged row op (supported_by.is_on_array is) stays there =
      on_array by l w a m read decoded sound told types named at offset cells local_cells x ranged row op is there
  stays_here types named may at offset cells local_cells x ranged row _ (supported_by.returns is) stays there =
      absurd cc
  stays_here types named may at offset cells local_cells x ranged row _ supported_by.throws stays there =
      throws_on by l w a m read decoded sound told types may at offset cells local_cells x ranged row there
  stays_here types named may at offset cells local_cells x ranged row op (supported_by.calls is) stays there =
      let clash : true ≡ false = sym (call_leaves by l w a m cells op is) ∙ stays in absurd cc

  -- each instruction that is supported
  supported_here : TypesAreTold w l → ClassesAreNamed w l → IsGiven l a m → ThrowablesMay l a
      → MayRaise l (table_of l a) → IsAnswered by l (table_of l a) → (at offset : ℕ) (cells local_cells : List Cell)
      (x : RangeState) (ranged : IsAlone a m at x)
      → HasRow (let f = a.found m in f.types) at (record { stack = stacks.Cells cells; locals = local_cells })
      → (op : JOp) → IsSupported by l w a m cells op → slice_get (let f = a.found m in let b = f.body in b.insns) at
      ≡ Some (record { at = offset; op = op })
      → Rule by l (table_of l a) m at (point_of l (record { stack = stacks.Cells cells; locals = local_cells }) x)
      (record { at = offset; op = op })
  supported_here types named given may may_raise answered at offset cells local_cells x ranged row op
      (supported_by.names_nothing is) there = (let r = keeps by l w a m read decoded sound told at offset cells
      local_cells x ranged row op is there in r.rule)
  supported_here types named given may may_raise answered at offset cells local_cells x ranged row op
      (supported_by.is_resolved is) there = (let r = resolved by l w a m read decoded sound told types at offset cells
      local_cells x ranged row op is there in r.rule)
  supported_here types named given may may_raise answered at offset cells local_cells x ranged row op
      (supported_by.is_on_array is) there = (let r = on_array by l w a m read decoded sound told types named at offset
      cells local_cells x ranged row op is there in r.rule)
  supported_here types named given may may_raise answered at offset cells local_cells x ranged row _
      (supported_by.returns ireturn) there = number_return by l w a m read decoded sound told types given at offset
      cells local_cells x ranged row there
  supported_here types named given may may_raise answered at offset cells local_cells x ranged row _
      (supported_by.returns areturn) there = reference_return by l w a m read decoded sound told types given at offset
      cells local_cells x ranged row there
  supported_here types named given may may_raise answered at offset cells local_cells x ranged row _
      (supported_by.returns returns) there = plain_return by l w a m read decoded sound told types given at offset cells
      local_cells x ranged row there
  supported_here types named given may may_raise answered at offset cells local_cells x ranged row _ supported_by.throws
      there = (let r = throws_on by l w a m read decoded sound told types may at offset cells local_cells x ranged row
      there in r.rule)
  supported_here types named given may may_raise answered at offset cells local_cells x ranged row op
      (supported_by.calls is) there = called_rule by l w a m read decoded sound told types may_raise answered at offset
      cells local_cells x ranged row op is there

  -- ---- in a pair or alone

  -- what follows of a rule within the frame, and of standing alone
  module _ (types : TypesAreTold w l) (Answer : (p : Point) → JInsn → Type 0) (at : ℕ)
      (answer : (p : Point) (i : JInsn) → RuleWithin by l (table_of l a) m at p i → Answer p i) where
    either_way : (i : JInsn) (p : Point) → slice_get (let f = a.found m in let b = f.body in b.insns) at ≡ Some i
        → (let tb = table_of l a in tb.point m at ≡ Some p)
        → ((t : State) → HasRow (let f = a.found m in f.types) at t → IsSupported by l w a m (cells_of t.stack) i.op)
        → ((cells local_cells : List Cell) (x : RangeState) → (ranged : IsAlone a m at x)
        → HasRow (let f = a.found m in f.types) at (record { stack = stacks.Cells cells; locals = local_cells })
        → IsSupported by l w a m cells i.op
        → Answer (point_of l (record { stack = stacks.Cells cells; locals = local_cells }) x) i) → Answer p i
    either_way i p there known supported alone_too =
        let f = a.found m in
        let q = point_under (point_at l f.types f.ranges at) (a.opened m at) p known in
        let h = point_from l (slice_get f.types at) (slice_get f.ranges at) q.0 q.1 in
        let t = h.typed in
        let cells = is_cells l w (let r = a.resolution m in r.constant) f sound at t h.has_types in
        let whole : HasRow f.types at (record { stack = stacks.Cells (cells_of t.stack); locals = t.locals }) =
        subst (λ s. HasRow f.types at (record { stack = s; locals = t.locals })) cells h.has_types in
        let is = supported (record { stack = stacks.Cells (cells_of t.stack); locals = t.locals }) whole in
        let one : suc at ≡ at + 1 = omega arith in
        let pair = subst (λ n. IsInPair (a.resolution m) (a.opened m at) i.op (let r = a.resolution m in r.role i.at)
        (a.opened m n)) one (read.pairs.each at i t there h.has_types) in
        subst (λ p. Answer p i) (sym (q.2 ∙ ap (with_open (a.opened m at)) h.is))
        (pair_rule by l w a m read decoded sound told at i.at
        (cells_of t.stack) t.locals h.ranged whole h.has_ranges types
        (λ o op. Answer (with_open o (point_of l (record {
          stack = stacks.Cells (cells_of t.stack);
          locals = t.locals;
        }) h.ranged)) (record { at = i.at; op = op }))
        (λ o op r. answer (with_open o (point_of l (record {
          stack = stacks.Cells (cells_of t.stack);
          locals = t.locals;
        }) h.ranged)) (record { at = i.at; op = op }) r)
        (a.opened m at) (a.opened m (at + 1)) (let r = a.resolution m in r.role i.at) i.op there refl refl refl pair is
        (λ alone. alone_too (cells_of t.stack) t.locals h.ranged (record { row = h.has_ranges; stands = alone }) whole
        is))

  pub rule_at : TypesAreTold w l → ClassesAreNamed w l → IsGiven l a m → ThrowablesMay l a
      → MayRaise l (table_of l a) → IsAnswered by l (table_of l a) → AreSupported by l w a m
      → (at : ℕ) (i : JInsn) (p : Point) → slice_get (let f = a.found m in let b = f.body in b.insns) at ≡ Some i
      → (let tb = table_of l a in tb.point m at ≡ Some p) → Rule by l (table_of l a) m at p i
  rule_at types named given may may_raise answered supported at i p there known =
      either_way types (λ p i. Rule by l (table_of l a) m at p i) at (λ p i r. r.rule) i p there known
      (λ t row. supported at i t there row) (λ cells local_cells x ranged row is. supported_here types named given may
      may_raise answered at i.at cells local_cells x ranged row i.op is there)

  -- the same of an instruction that stays in the frame, whatever the others are
  pub within_at : TypesAreTold w l → ClassesAreNamed w l → ThrowablesMay l a → (at : ℕ) (i : JInsn) (p : Point)
      → slice_get (let f = a.found m in let b = f.body in b.insns) at ≡ Some i
      → (let tb = table_of l a in tb.point m at ≡ Some p) → leaves_frame i.op ≡ false
      → ((t : State) → HasRow (let f = a.found m in f.types) at t → IsSupported by l w a m (cells_of t.stack) i.op)
      → RuleWithin by l (table_of l a) m at p i
  within_at types named may at i p there known stays supported =
      either_way types (λ p i. RuleWithin by l (table_of l a) m at p i) at (λ p i r. r) i p there known supported
      (λ cells local_cells x ranged row is. stays_here types named may at i.at cells local_cells x ranged row i.op is
      stays there)
