-- Where the code of a method in int mode stands as it is written, each reached instruction keeps its rule.
use Rattle.std.proofs.Common.{◌≡◌, ℕ, ◌<◌, sym, subst, arith, Bool, List, ◌∷◌, ◌++◌}
use Rattle.std.proofs.Common.{length}
use Rattle.std.specs.Prelude.{Option}
use Rattle.cjc_int_proof.specs.Bytecode.declared.insn.JInsn.{JInsn}
use Rattle.cjc_int_proof.specs.Bytecode.declared.insn.JOp.{JOp}
use Rattle.cjc_int_proof.specs.Bytecode.declared.insn.JOp.TheVariants as jop
use Rattle.cjc_script.specs.declared.value.Value.{Value}
use Rattle.cjc_script.specs.Sorts.{Shape, Sort}
use Rattle.cjc_card_semantics.specs.Bytecode.Machine.{Start}
use Rattle.cjc_ncode.specs.declared.narrow.NInsn.{NInsn}
use Rattle.cjc_ncode.specs.declared.narrow.NMethod.{NMethod}
use Rattle.cjc_ncode.specs.ByLabel.{Named, by_label}
use Rattle.cjc_ncode.specs.IntCode.IntCode.{written}
use Rattle.cjc_jvm_semantics.specs.Linked.{Method, Linked}
use Rattle.cjc_jvm_semantics.specs.Effects.{Store}
use Rattle.cjc_jvm_semantics.specs.Effects as by_name
use Rattle.cjc_jvm_semantics.specs.Machine.{Frame}
use Rattle.cjc_int_proof.specs.Walks.{walk}
use Rattle.cjc_narrow_proof.specs.Selection.Calls.{NFrame}
use Rattle.cjc_narrow_proof.specs.Selection.Relation.{Kind, Refers, NMemory}
use Rattle.cjc_int_runs.specs.Bodies.{IntInsn, has_row, has_jump, is_nop, is_throw}
use Rattle.cjc_int_runs.specs.Bodies.{has_return, is_call, IntMethodStands}
use Rattle.cjc_int_runs.specs.Calls.{CallInStep}
use Rattle.cjc_int_runs.specs.IntFrames.{IntPoint, IntBody, int_spot, IntRule, does, jumps, nothing, throws, returns}
use Rattle.cjc_int_runs.specs.IntFrames.{calls, IntMethodIsFine}
use Rattle.cjc_int_runs.specs.Modes.{below_params}
use Rattle.cjc_int_runs.specs.Relation.{IntStacks, IntLocals}
use Rattle.cjc_int_runs.specs.Steps.{StandAt, behind, spot, LeavesInStep}
use Rattle.cjc_int_runs.specs.Throws.{ThrowsInStep}
use Rattle.cjc_int_runs.proofs.Bounds.{at_most_767}
use Rattle.cjc_int_runs.proofs.EachRow.{each_row, each_jump, each_return}
use Rattle.cjc_int_runs.proofs.HandOver.{int_call}
use Rattle.cjc_int_runs.proofs.Thrown.{int_throw}

module _ (by : Linked) (l : Named) (Here : NMemory → Frame → NFrame → Type 0) (results : Method → Option Sort)
    (narrowed : Method → Start NMethod) (may_throw : Shape (List ℕ) → Bool) (b : IntBody) (m : Method) (at : ℕ)
    (p : IntPoint) (i : JInsn) where
  abbrev here : ℕ
  here = int_spot b m at

  -- what is written for an instruction there
  abbrev list_of : JOp → List NInsn
  list_of op = written b.frame b.resolution b.place_of p.before here op

  thrown : (within : Shape (List ℕ) → Bool) (ks : List Kind) → i.op ≡ jop.Throw → p.stack ≡ Refers within ∷ ks
      → StandAt b.code here (list_of i.op) → (vs ws : List Value) (locals words : List (Option Value)) (store : Store)
      (memory : NMemory) → IntStacks memory.heap p.stack vs ws
      → ThrowsInStep within here words memory (by_name.effect by m at locals store i.op vs)
      (λ n. walk (by_label l) b.code n (spot here ws words memory))
  thrown within ks is known stand vs ws locals words store memory stacks =
      subst (λ op. ThrowsInStep within here words memory (by_name.effect by m at locals store op vs)
      (λ n. walk (by_label l) b.code n (spot here ws words memory))) (sym is)
      (int_throw by l b.frame b.resolution m p.before within b.place_of b.code here
      (subst (λ op. StandAt b.code here (list_of op)) is stand) at ks vs ws locals words store memory
      (subst (λ kinds. IntStacks memory.heap kinds vs ws) known stacks))

  rule_of : StandAt b.code here (list_of i.op) → IntInsn by l Here results narrowed may_throw b m at p i
      → IntRule by l Here results narrowed may_throw b m at p i
  rule_of stand (has_row before ks after js known row count room room' a c) =
      does (after ++ ks) js (λ vs ws locals words store memory stores held stacks.
      each_row by l b.frame b.pairs b.resolution m row b.place_of b.code here stand at ks vs ws locals words store
      memory
      room room' stores held (subst (λ kinds. IntStacks memory.heap kinds vs ws) known stacks)) count a c
  rule_of stand (has_jump before ks offsets known row count room there falls) =
      jumps ks offsets (λ vs ws locals words store memory stores held stacks.
      each_jump by l b.frame b.pairs b.resolution m row b.place_of b.code here stand at ks p.locals vs ws locals words
      store memory room stores held (subst (λ kinds. IntStacks memory.heap kinds vs ws) known stacks)) count there falls
  rule_of stand (is_nop is low a) = nothing is low a
  rule_of stand (is_throw within ks is known may c) =
      throws within is (thrown within ks is known stand)
      (subst (λ op. 0 < length (list_of op)) (sym is) (omega arith)) may c
  rule_of stand (has_return kinds ks known row same fits) =
      returns kinds (λ vs ws locals words store memory stacks.
      subst (λ sort. LeavesInStep memory.heap sort kinds words memory (by_name.effect by m at locals store i.op vs)
      (λ n. walk (by_label l) b.code n (spot here ws words memory)) (length (list_of i.op))) same
      (each_return by l b.frame b.pairs b.resolution m row b.place_of b.code here stand at ks vs ws locals words store
      memory (subst (λ kinds. IntStacks memory.heap kinds vs ws) known stacks))) fits
  rule_of stand (is_call op id callee types params ks receiver is known has_types names passes few room a room' c
      reaches) =
      calls op id callee types params ks receiver has_types
      (subst (λ o. (vs ws : List Value) (locals words : List (Option Value)) (store : Store) (memory : NMemory)
      → IntLocals memory.heap b.frame b.pairs p.locals locals words → IntStacks memory.heap p.stack vs ws
      → CallInStep l b.frame b.pairs p.locals b.code here (behind here (list_of o)) op id callee types.params params
      (below_params receiver ks) vs ws locals words memory types.result (by_name.effect by m at locals store o vs)
      (length (list_of o))) (sym is)
      (λ vs ws locals words store memory held stacks. int_call by l b.frame b.pairs b.resolution m p.before op id callee
      types params has_types names passes few b.place_of b.code here
      (subst (λ o. StandAt b.code here (list_of o)) is stand) at (below_params receiver ks) p.locals vs ws locals words
      store memory room held (subst (λ kinds. IntStacks memory.heap kinds vs ws) known stacks))) a room' c reaches

pub method_is_fine : (by : Linked) (l : Named) (Here : NMemory → Frame → NFrame → Type 0) (results : Method → Option
    Sort)
    (narrowed : Method → Start NMethod) (may_throw : Shape (List ℕ) → Bool) (b : IntBody) (m : Method)
    → IntMethodStands by l Here results narrowed may_throw b m
    → IntMethodIsFine by l Here results narrowed may_throw b m
method_is_fine by l Here results narrowed may_throw b m h = record {
  rules = λ at p is. (let q = h.stands at p is in (
    q.0,
    (
      q.1.0,
      (
        at_most_767 b.frame b.resolution b.place_of p.before (int_spot b m at) (let i = q.0 in i.op)
            (λ opcode id types e e'. h.few_params opcode id types at p q.0 is q.1.0 e e'),
        rule_of by l Here results narrowed may_throw b m at p q.0 q.1.1.0 q.1.1.1,
      ),
    ),
  ));
}
