-- When a switch of a class file and what is written for it lead to one place, where no case is left of it: a pop and a
-- jump.
use Rattle.std.specs.Prelude.{◌≡◌, ℕ, ◌+◌, List, [], ◌∷◌, ◌++◌, map, Option}
use Rattle.cjc_code.specs.declared.insn.JCase.{JCase}
use Rattle.cjc_code.specs.declared.insn.JOp.{JOp}
use Rattle.cjc_script.specs.declared.value.Value.{Value}
use Rattle.cjc_card_semantics.specs.Bytecode.Effects as narrow
use Rattle.cjc_ncode.specs.declared.narrow.NInsn.{NInsn}
use Rattle.cjc_ncode.specs.Written.{Resolution, written}
use Rattle.cjc_ncode.specs.ByLabel.{Named, classes, operation}
use Rattle.cjc_jvm_semantics.specs.Linked.{Method, Linked}
use Rattle.cjc_jvm_semantics.specs.Effects.{Store}
use Rattle.cjc_jvm_semantics.specs.Effects as by_name
use Rattle.cjc_narrow_proof.specs.Selection.Relation.{Kind, NMemory, Stacks, Locals, Stores}
use Rattle.cjc_narrow_proof.specs.Selection.Jumps.{Jumps}

-- the targets of a lookupswitch
abbrev pub targets_of : List JCase → List ℕ
targets_of cases = map (λ c. c.target) cases

-- The first narrow instruction takes the cells and goes on with a stack on which the second one leads where the class
-- file's leads.
pub record JumpsInTwo (l : Named) (ks ls : List Kind) (offsets : List ℕ) (named_place narrow_place : ℕ
    → ℕ) (at between next room : ℕ) (first second : NInsn) (words : List (Option Value)) (memory : NMemory)
    (ws : List Value) (named_side : by_name.Effect) : Type 0 where
  pub stack : List Value
  pub goes_on : narrow.effect (classes l) (operation first) room between words memory ws ≡ narrow.Go between stack words
      memory
  pub leads : Jumps l ks ls offsets named_place narrow_place at next named_side (narrow.effect (classes l)
      (operation second) room next words memory stack)

-- In the code of m, `op` on a stack with cells of the kinds `before` on top and the two instructions that are written
-- for it, where
-- two are, take these cells and lead to the place of one of these offsets.
abbrev pub TwoAgree : Linked → Named → Resolution → Method → JOp → (before : List Kind) → (offsets : List ℕ) → Type 0
TwoAgree by l r m op before offsets =
    (place : ℕ → ℕ) (first second : NInsn) → written r place op ≡ first ∷ second ∷ [] →
    (room at between next : ℕ) (ks ls : List Kind) (vs ws : List Value) (locals words : List (Option Value))
    (store : Store) (memory : NMemory) →
    Stores l store memory → Locals memory.heap ls locals words → Stacks memory.heap (before ++ ks) vs ws →
    JumpsInTwo l ks ls offsets (by_name.place m.insns) place (at + 1) between next room first second words memory ws
    (by_name.effect by m at locals store op vs)
