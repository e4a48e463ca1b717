-- When an athrow of a class file and the one that is written for it in int mode throw the same object.
use Rattle.std.specs.Prelude.{◌≡◌, ℕ, ◌+◌, List, ◌∷◌, Option, Some, Bool, true, slice_get}
use Rattle.cjc_script.specs.Bytes.declared.fault.MemberId.{MemberId}
use Rattle.cjc_int_proof.specs.Bytecode.declared.insn.JOp.TheVariants as jop
use Rattle.cjc_script.specs.declared.value.Value.{Value}
use Rattle.cjc_script.specs.Sorts.{Shape}
use Rattle.cjc_card_semantics.specs.Bytecode.Effects.{HeapObject, shape}
use Rattle.cjc_card_semantics.specs.Bytecode.Effects as narrow
use Rattle.cjc_ncode.specs.declared.narrow.NMethod.{NMethod}
use Rattle.cjc_ncode.specs.ByLabel.{Named, by_label}
use Rattle.cjc_ncode.specs.Written.{Resolution}
use Rattle.cjc_ncode.specs.IntCode.IntCode.{Before, Frame, written}
use Rattle.cjc_jvm_semantics.specs.Linked.{Method, Linked}
use Rattle.cjc_jvm_semantics.specs.Effects.{Store, NullPointer}
use Rattle.cjc_jvm_semantics.specs.Effects as by_name
use Rattle.cjc_int_proof.specs.Walks.{Out, walk}
use Rattle.cjc_narrow_proof.specs.Selection.Relation.{Kind, Refers, NMemory}
use Rattle.cjc_narrow_proof.specs.Selection.Rows.{narrow_fault}
use Rattle.cjc_int_runs.specs.Relation.{IntStacks}
use Rattle.cjc_int_runs.specs.Steps.{StandAt, NWalked, spot}

-- Both throw the same array or object, of a type that passes the test; or both raise, on null.
pub data ThrowsInStep (within : Shape (List ℕ) → Bool) (here : ℕ) (words : List (Option Value)) (memory : NMemory)
    (named : by_name.Effect) (run : ℕ → NWalked) : Type 0 where
  throws_object : (object : ℕ) (thing : HeapObject (List ℕ) MemberId) (nstack : List Value)
      → slice_get memory.heap object ≡ Some thing → within (shape thing) ≡ true → named ≡ by_name.Toss object
      → run 1 ≡ Out (spot here nstack words memory) (here + 1) (narrow.Toss object)
      → ThrowsInStep within here words memory named run
  throws_null : (nstack : List Value) → named ≡ by_name.Raise NullPointer
      → run 1 ≡ Out (spot here nstack words memory) (here + 1) (narrow.Raise (narrow_fault NullPointer))
      → ThrowsInStep within here words memory named run

-- In the code of m, athrow on a stack with a reference on top and what is written for it, whatever is below.
abbrev pub IntThrow : Linked → Named → Frame → Resolution → Method → Before → (within : Shape (List ℕ) → Bool) → Type 0
IntThrow by l f r m b within =
    (place : ℕ → ℕ) (code : NMethod) (here : ℕ) → StandAt code here (written f r place b here jop.Throw) →
    (at : ℕ) (ks : List Kind) (vs ws : List Value) (locals words : List (Option Value)) (store : Store)
    (memory : NMemory) → IntStacks memory.heap (Refers within ∷ ks) vs ws →
    ThrowsInStep within here words memory (by_name.effect by m at locals store jop.Throw vs)
    (λ n. walk (by_label l) code n (spot here ws words memory))
