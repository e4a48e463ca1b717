-- What code in int mode does before a call and behind it: its parameters are handed over by the types of the method
-- that is called, whatever the mode of that is, and a result of one word becomes two.
use Rattle.std.specs.Prelude.{◌≡◌, ℕ, ◌+◌, ◌<◌, ◌≤◌, List, [], ◌∷◌, ◌++◌, length, Option, Bool, true}
use Rattle.cjc_script.specs.Bytes.declared.fault.MemberId.{MemberId}
use Rattle.cjc_range.specs.Span.{Span, Within}
use Rattle.cjc_script.specs.declared.value.Value.{Value}
use Rattle.cjc_script.specs.Sorts.{Shape, Sort, Int, Reference, Signature}
use Rattle.cjc_card_semantics.specs.Bytecode.Effects as narrow
use Rattle.cjc_int_proof.specs.Bytecode.declared.insn.JOp.TheVariants as jop
use Rattle.cjc_ncode.specs.declared.narrow.NInsn.{NInsn}
use Rattle.cjc_ncode.specs.declared.narrow.NMethod.{NMethod}
use Rattle.cjc_ncode.specs.ByLabel.{Callee, Named, by_label}
use Rattle.cjc_ncode.specs.Written.{Resolution}
use Rattle.cjc_ncode.specs.IntCode.IntCode.{Before, is_short, scratch_pairs_of, widened_result, written}
use Rattle.cjc_ncode.specs.IntCode.IntCode as written
use Rattle.cjc_jvm_semantics.specs.Linked.{Method, Linked}
use Rattle.cjc_jvm_semantics.specs.Effects.{Store}
use Rattle.cjc_jvm_semantics.specs.Effects as by_name
use Rattle.cjc_jvm_semantics.specs.Machine.{values_of}
use Rattle.cjc_int_proof.specs.Walks.{Within as Inside, Out, walk}
use Rattle.cjc_narrow_proof.specs.Selection.Relation.{Kind, Range, Refers, NMemory}
use Rattle.cjc_int_runs.specs.Relation.{IntStacks, IntLocals, type_range, AllHanded}
use Rattle.cjc_int_runs.specs.Steps.{StandAt, behind, spot, HasIntRoom}

-- cells or words on top of others, the last on top
abbrev pub onto : {A : Type 0} → List A → List A → List A
onto [] ks = ks
onto (p ∷ ps) ks = onto ps (p ∷ ks)

-- Numbers of its interval are passed for a type of one word, any numbers for int, and references for a class or array.
pub data PassesInt : List Sort → List Kind → Type 0 where
  none_passed : PassesInt [] []
  a_word_passed : {sort : Sort} {s : Span} {sorts : List Sort} {ks : List Kind} → is_short sort ≡ true
      → Within s (type_range sort) → PassesInt sorts ks → PassesInt (sort ∷ sorts) (Range s ∷ ks)
  an_int_passed : {s : Span} {sorts : List Sort} {ks : List Kind} → PassesInt sorts ks
      → PassesInt (Int ∷ sorts) (Range s ∷ ks)
  a_reference_passed : {shape : Shape (List ℕ)} {within : Shape (List ℕ) → Bool} {sorts : List Sort} {ks : List Kind}
      → PassesInt sorts ks → PassesInt (Reference shape ∷ sorts) (Refers within ∷ ks)

-- Instructions cut the words of parameters that are on top of the stack as their types say, and leave them on top: what
-- is handed over is the arguments by name. They change no local, but scratch words.
pub record HandsOver (l : Named) (f : written.Frame) (pairs : ℕ) (ls : List Kind) (code : NMethod) (here : ℕ)
    (insns : List NInsn) (sorts : List Sort) (params ks : List Kind) (vs ws : List Value)
    (locals words : List (Option Value)) (memory : NMemory) : Type 0 where
  pub args : List Value
  pub under : List Value
  pub handed : List Value
  pub below : List Value
  pub nlocals : List (Option Value)
  pub steps : ℕ
  pub few : steps ≤ length insns
  pub by_name : vs ≡ onto args under
  pub leads : walk (by_label l) code steps (spot here ws words memory)
      ≡ Inside (spot (behind here insns) (onto handed below) nlocals memory)
  pub agree : AllHanded memory.heap sorts params args handed
  pub rest : IntStacks memory.heap ks under below
  pub locals_agree : IntLocals memory.heap f pairs ls locals nlocals

-- Both call, with the arguments handed over: by label the call is the one instruction that is not before it or behind.
pub record CallInStep (l : Named) (f : written.Frame) (pairs : ℕ) (ls : List Kind) (code : NMethod) (here next : ℕ)
    (op : ℕ) (id : MemberId) (callee : Callee) (sorts : List Sort) (params ks : List Kind) (vs ws : List Value)
    (locals words : List (Option Value)) (memory : NMemory) (result : Option Sort) (named : by_name.Effect) (most : ℕ) :
    Type 0 where
  pub args : List Value
  pub under : List Value
  pub handed : List Value
  pub below : List Value
  pub nlocals : List (Option Value)
  pub at : ℕ
  pub steps : ℕ
  pub few : steps ≤ most
  pub from : here ≤ at
  pub before : at < next
  pub is_call : named ≡ by_name.Invoke op id
  pub by_name : vs ≡ onto args under
  pub by_label : walk (by_label l) code steps (spot here ws words memory)
      ≡ Out (spot at (onto handed below) nlocals memory) (at + 1) (narrow.Invoke callee)
  pub agree : AllHanded memory.heap sorts params args handed
  pub rest : IntStacks memory.heap ks under below
  pub locals_agree : IntLocals memory.heap f pairs ls locals nlocals
  pub then : StandAt code (at + 1) (widened_result result)
  pub ends : behind (at + 1) (widened_result result) ≡ next

-- In the code of m, a call of a member with these types on a stack with cells of the kinds of its parameters on top,
-- and what is written for it, in any code in which that stands, call with arguments that agree.
abbrev pub IntCall : Linked → Named → written.Frame → (pairs : ℕ) → Resolution → Method → Before → (op : ℕ)
    → (id : MemberId) → Callee → Signature → (params : List Kind) → Type 0
IntCall by l f pairs r m b op id callee types params =
    (place : ℕ → ℕ) (code : NMethod) (here : ℕ) → StandAt code here (written f r place b here (jop.Call op id)) →
    (at : ℕ) (ks ls : List Kind) (vs ws : List Value) (locals words : List (Option Value)) (store : Store)
    (memory : NMemory) → HasIntRoom (length params + length ks) m.max_stack code.max_stack
    → IntLocals memory.heap f pairs ls locals words → IntStacks memory.heap (onto params ks) vs ws →
    CallInStep l f pairs ls code here (behind here (written f r place b here (jop.Call op id))) op id callee
    types.params
    params ks vs ws locals words memory types.result (by_name.effect by m at locals store (jop.Call op id) vs)
    (length (written f r place b here (jop.Call op id)))

-- What is written behind a call leaves a result on the stack as the frame has it.
pub record Resumed (l : Named) (code : NMethod) (here : ℕ) (list : List NInsn) (kinds ks : List Kind)
    (value : Option Value) (result_words under below : List Value) (words : List (Option Value)) (memory : NMemory) :
    Type 0 where
  pub stack : List Value
  pub leads : walk (by_label l) code (length list) (spot here (onto result_words below) words memory)
      ≡ Inside (spot (behind here list) stack words memory)
  pub agree : IntStacks memory.heap (kinds ++ ks) (values_of value ++ under) stack
