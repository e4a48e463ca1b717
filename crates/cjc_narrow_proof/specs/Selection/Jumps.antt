-- When a jump of a class file and the narrow jump that is written for it lead to one place, and what a method gives
-- when it
-- returns on both sides.
use Rattle.std.specs.Prelude.{◌≡◌, ℕ, ◌+◌, List, [], ◌∷◌, ◌++◌, Option, Some, None}
use Rattle.std.specs.List.{Contains}
use Rattle.cjc_code.specs.declared.insn.JOp.{JOp}
use Rattle.cjc_script.specs.declared.value.Value.{Value}
use Rattle.cjc_card_semantics.specs.Bytecode.Effects as narrow
use Rattle.cjc_ncode.specs.declared.narrow.NInsn.{NInsn}
use Rattle.cjc_ncode.specs.Written.{Resolution, written}
use Rattle.cjc_ncode.specs.ByLabel.{Named, classes, operation}
use Rattle.cjc_jvm_semantics.specs.Linked.{Method, Linked}
use Rattle.cjc_jvm_semantics.specs.Effects.{Store}
use Rattle.cjc_jvm_semantics.specs.Effects as by_name
use Rattle.cjc_narrow_proof.specs.Selection.Relation.{Kind, Heap, NMemory, Agrees, Stacks, Locals, Stores}
use Rattle.cjc_narrow_proof.specs.Selection.Rows.{NEffect}

-- Both go on at what stands for one of these offsets, or both behind the jump, with stacks, locals, heaps and static
-- cells
-- that agree.
pub data Jumps (l : Named) (ks ls : List Kind) (offsets : List ℕ) (named_place narrow_place : ℕ → ℕ) (at next : ℕ) :
    by_name.Effect → NEffect → Type 0 where
  jumps : {vs ws : List Value} {locals words : List (Option Value)} {store : Store} {memory : NMemory} (offset : ℕ)
      → Contains offsets offset → Stacks memory.heap ks vs ws → Locals memory.heap ls locals words
      → Stores l store memory → Jumps l ks ls offsets named_place narrow_place at next (by_name.Go (named_place offset)
      vs locals store) (narrow.Go (narrow_place offset) ws words memory)
  falls : {vs ws : List Value} {locals words : List (Option Value)} {store : Store} {memory : NMemory}
      → Stacks memory.heap ks vs ws → Locals memory.heap ls locals words → Stores l store memory
      → Jumps l ks ls offsets named_place narrow_place at next (by_name.Go at vs locals store) (narrow.Go next ws words
      memory)

-- In the code of m, `op` on a stack with cells of the kinds `before` on top and the one instruction that is written for
-- it
-- take these cells and lead to one place: that of one of these offsets, or the one behind the instruction.
abbrev pub JumpAgrees : Linked → Named → Resolution → Method → JOp → (before : List Kind) → (offsets : List ℕ) → Type 0
JumpAgrees by l r m op before offsets =
    (place : ℕ → ℕ) (insn : NInsn) → written r place op ≡ insn ∷ [] →
    (room at next : ℕ) (ks ls : List Kind) (vs ws : List Value) (locals words : List (Option Value)) (store : Store)
    (memory : NMemory) →
    Stores l store memory → Locals memory.heap ls locals words → Stacks memory.heap (before ++ ks) vs ws →
    Jumps l ks ls offsets (by_name.place m.insns) place (at + 1) next (by_name.effect by m at locals store op vs)
    (narrow.effect (classes l) (operation insn) room next words memory ws)

-- a value and its one word, or nothing on either side
pub data Results (heap : Heap) : List Kind → Option Value → List Value → Type 0 where
  no_result : Results heap [] None []
  result : {kind : Kind} {v w : Value} → Agrees heap kind v w → Results heap (kind ∷ []) (Some v) (w ∷ [])

-- both return, with results that agree
pub data Returns (heap : Heap) (kinds : List Kind) : by_name.Effect → NEffect → Type 0 where
  leaves : {value : Option Value} {words : List Value} → Results heap kinds value words
      → Returns heap kinds (by_name.Leave value) (narrow.Leave words)

-- In the code of m, the return `op` on a stack with cells of these kinds on top and the one instruction that is written
-- for it
-- give these cells, whatever is below them.
abbrev pub ReturnAgrees : Linked → Named → Resolution → Method → JOp → (kinds : List Kind) → Type 0
ReturnAgrees by l r m op kinds =
    (place : ℕ → ℕ) (insn : NInsn) → written r place op ≡ insn ∷ [] →
    (room at next : ℕ) (ks : List Kind) (vs ws : List Value) (locals words : List (Option Value)) (store : Store)
    (memory : NMemory) →
    Stacks memory.heap (kinds ++ ks) vs ws →
    Returns memory.heap kinds (by_name.effect by m at locals store op vs) (narrow.effect (classes l) (operation insn)
    room next words memory ws)
