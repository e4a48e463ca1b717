-- When an instruction of a class file and the instructions that are written for it in int mode do the same, in any code
-- in which these stand: one step of the machine by name, and a walk of the machine by label.
use Rattle.std.specs.Prelude.{◌≡◌, ℕ, ◌+◌, ◌*◌, ◌≤◌, ◌<◌, List, [], ◌∷◌, ◌++◌, length, map, Option, Some, None, Bool}
use Rattle.std.specs.Prelude.{true, false, slice_get}
use Rattle.std.specs.List.{Contains}
use Rattle.cjc_script.specs.Bytes.declared.fault.MemberId.{MemberId}
use Rattle.cjc_int_proof.specs.Bytecode.declared.insn.JOp.{JOp}
use Rattle.cjc_script.specs.declared.value.Value.{Value}
use Rattle.cjc_script.specs.Sorts.{Sort}
use Rattle.cjc_card_semantics.specs.Bytecode.Effects.{Slot}
use Rattle.cjc_card_semantics.specs.Bytecode.Effects as narrow
use Rattle.cjc_ncode.specs.declared.narrow.NInsn.{NInsn}
use Rattle.cjc_ncode.specs.declared.narrow.NMethod.{NMethod}
use Rattle.cjc_ncode.specs.ByLabel.{Callee, Named, by_label}
use Rattle.cjc_ncode.specs.Written.{Resolution}
use Rattle.cjc_ncode.specs.IntCode.IntCode.{Before, written}
use Rattle.cjc_ncode.specs.IntCode.IntCode as written
use Rattle.cjc_jvm_semantics.specs.Linked.{Method, Linked}
use Rattle.cjc_jvm_semantics.specs.Effects.{Fault, Store}
use Rattle.cjc_jvm_semantics.specs.Effects as by_name
use Rattle.cjc_int_proof.specs.Walks.{Spot, Walked, Within, Out, walk}
use Rattle.cjc_narrow_proof.specs.Selection.Relation.{Kind, Refers, Heap, NMemory, Stores}
use Rattle.cjc_narrow_proof.specs.Selection.Rows.{narrow_fault}
use Rattle.cjc_int_runs.specs.Relation.{IntStacks, IntLocals, Handed}

-- ---- code

-- These instructions stand in the code, from a place on.
abbrev pub StandAt : NMethod → (at : ℕ) → List NInsn → Type 0
StandAt code at [] = Unit {0}
StandAt code at (i ∷ insns) = (slice_get code.insns at ≡ Some i) × StandAt code (at + 1) insns

-- the place behind as many
abbrev pub behind : (at : ℕ) → List NInsn → ℕ
behind at [] = at
behind at (i ∷ insns) = behind (at + 1) insns

-- where a frame of narrow code is
abbrev pub NSpot : Type 0
NSpot = Spot (List ℕ) MemberId (List (Slot MemberId))

-- where its instructions lead
abbrev pub NWalked : Type 0
NWalked = Walked (List ℕ) MemberId Callee (List (Slot MemberId))

-- a spot
abbrev pub spot : (at : ℕ) → List Value → List (Option Value) → NMemory → NSpot
spot at stack locals memory = record { at = at; stack = stack; locals = locals; memory = memory }

-- A method has room by name for so many cells. Its code has room for two words for each cell that the method has room
-- for, and four more.
pub record HasIntRoom (cells max_stack room : ℕ) : Type 0 where
  pub by_name : cells ≤ max_stack
  pub words : 2 * max_stack + 4 ≤ room

-- ---- what both do

-- `run` is what so many written instructions lead to, and `most` how many are written.
module _ (l : Named) (f : written.Frame) (pairs : ℕ) (ks ls : List Kind) (here next : ℕ)
    (words : List (Option Value)) (memory : NMemory) where
  -- Both go on: by name at a place, and in int mode at another, with stacks and locals that agree, and with heaps and
  -- static cells that do. Not more instructions are made than are written, and one at least where one is.
  pub record GoOn (at place : ℕ) (named : by_name.Effect) (run : ℕ → NWalked) (most : ℕ) : Type 0 where
    pub stack : List Value
    pub locals : List (Option Value)
    pub store : Store
    pub nstack : List Value
    pub nlocals : List (Option Value)
    pub nmemory : NMemory
    pub steps : ℕ
    pub few : steps ≤ most
    pub some : 0 < most → 0 < steps
    pub by_name : named ≡ by_name.Go at stack locals store
    pub by_label : run steps ≡ Within (spot place nstack nlocals nmemory)
    pub stacks_agree : IntStacks nmemory.heap ks stack nstack
    pub locals_agree : IntLocals nmemory.heap f pairs ls locals nlocals
    pub stores_agree : Stores l store nmemory

  -- Both raise the same exception of the machine's own: in int mode one of the written instructions does, and locals,
  -- heap and static cells are as they were.
  pub record Raise (named : by_name.Effect) (run : ℕ → NWalked) (most : ℕ) : Type 0 where
    pub fault : Fault
    pub at : ℕ
    pub behind : ℕ
    pub nstack : List Value
    pub steps : ℕ
    pub few : steps ≤ most
    pub by_name : named ≡ by_name.Raise fault
    pub by_label : run steps ≡ Out (spot at nstack words memory) behind (narrow.Raise (narrow_fault fault))
    pub from : here ≤ at
    pub before : at < next

  -- Both go on behind what they do, or both raise the same exception.
  pub data InStep (at : ℕ) (named : by_name.Effect) (run : ℕ → NWalked) (most : ℕ) : Type 0 where
    goes : GoOn at next named run most → InStep at named run most
    raises : Raise named run most → InStep at named run most

  -- Both go on at what stands for one of these offsets, or both behind the jump.
  pub data JumpInStep (offsets : List ℕ) (named_place narrow_place : ℕ → ℕ) (at : ℕ) (named : by_name.Effect)
      (run : ℕ → NWalked) (most : ℕ) : Type 0 where
    jumps : (offset : ℕ) → Contains offsets offset → GoOn (named_place offset) (narrow_place offset) named run most
        → JumpInStep offsets named_place narrow_place at named run most
    falls : GoOn at next named run most → JumpInStep offsets named_place narrow_place at named run most

-- ---- rows

module _ (by : Linked) (l : Named) (f : written.Frame) (pairs : ℕ) (r : Resolution) (m : Method) (b : Before)
    (op : JOp) where
  -- In the code of m, `op` on a stack with cells of the kinds `before` on top, with locals of the kinds `ls`, and what
  -- is written for it in any code in which that stands do the same: both leave cells of the kinds `after` in their
  -- place and locals of the kinds `js`, and go on behind.
  abbrev pub IntRow : (before after ls js : List Kind) → Type 0
  IntRow before after ls js =
      (place : ℕ → ℕ) (code : NMethod) (here : ℕ) → StandAt code here (written f r place b here op) →
      (at : ℕ) (ks : List Kind) (vs ws : List Value) (locals words : List (Option Value)) (store : Store)
      (memory : NMemory) →
      HasIntRoom (length (before ++ ks)) m.max_stack code.max_stack
      → HasIntRoom (length (after ++ ks)) m.max_stack code.max_stack
      → Stores l store memory → IntLocals memory.heap f pairs ls locals words
      → IntStacks memory.heap (before ++ ks) vs ws →
      InStep l f pairs (after ++ ks) js here (behind here (written f r place b here op)) words memory (at + 1)
      (by_name.effect by m at locals store op vs)
      (λ n. walk (by_label l) code n (spot here ws words memory)) (length (written f r place b here op))

  -- The same of an instruction that takes cells of the kinds `before`, and leads to one of these offsets or behind
  -- itself.
  abbrev pub IntJump : (before : List Kind) (offsets : List ℕ) → Type 0
  IntJump before offsets =
      (place : ℕ → ℕ) (code : NMethod) (here : ℕ) → StandAt code here (written f r place b here op) →
      (at : ℕ) (ks ls : List Kind) (vs ws : List Value) (locals words : List (Option Value)) (store : Store)
      (memory : NMemory) →
      HasIntRoom (length (before ++ ks)) m.max_stack code.max_stack
      → Stores l store memory → IntLocals memory.heap f pairs ls locals words
      → IntStacks memory.heap (before ++ ks) vs ws →
      JumpInStep l f pairs ks ls here (behind here (written f r place b here op)) words memory offsets
      (by_name.place m.insns) place (at + 1) (by_name.effect by m at locals store op vs)
      (λ n. walk (by_label l) code n (spot here ws words memory)) (length (written f r place b here op))

-- ---- returns

-- what a method gives: nothing, or the words of a value of its result's type
pub data IntResults (heap : Heap) : Option Sort → List Kind → Option Value → List Value → Type 0 where
  no_result : IntResults heap None [] None []
  result : {sort : Sort} {kind : Kind} {v : Value} {words : List Value} → Handed heap sort kind v words
      → IntResults heap (Some sort) (kind ∷ []) (Some v) words

-- Both return, with results that agree.
pub record LeavesInStep (heap : Heap) (sort : Option Sort) (kinds : List Kind) (words : List (Option Value))
    (memory : NMemory) (named : by_name.Effect) (run : ℕ → NWalked) (most : ℕ) : Type 0 where
  pub value : Option Value
  pub result_words : List Value
  pub at : ℕ
  pub behind : ℕ
  pub nstack : List Value
  pub steps : ℕ
  pub few : steps ≤ most
  pub by_name : named ≡ by_name.Leave value
  pub by_label : run steps ≡ Out (spot at nstack words memory) behind (narrow.Leave result_words)
  pub results : IntResults heap sort kinds value result_words

-- In the code of m, the return `op` on a stack with cells of these kinds on top and what is written for it give these
-- cells as the method's result, whatever is below them.
abbrev pub IntReturn : Linked → Named → written.Frame → Resolution → Method → Before → JOp → (kinds : List Kind)
    → Type 0
IntReturn by l f r m b op kinds =
    (place : ℕ → ℕ) (code : NMethod) (here : ℕ) → StandAt code here (written f r place b here op) →
    (at : ℕ) (ks : List Kind) (vs ws : List Value) (locals words : List (Option Value)) (store : Store)
    (memory : NMemory) →
    IntStacks memory.heap (kinds ++ ks) vs ws →
    LeavesInStep memory.heap f.result kinds words memory (by_name.effect by m at locals store op vs)
    (λ n. walk (by_label l) code n (spot here ws words memory)) (length (written f r place b here op))

-- ---- the stack

-- whether a cell is a reference
abbrev pub refers : Kind → Bool
refers (Refers within) = true
refers kind = false

-- what is known of a stack with such cells on top
abbrev pub known : (cells : List Kind) (below : List Bool) (inside : Bool) → Before
known cells below inside = record { references = map refers cells ++ below; is_index_inside = inside }
