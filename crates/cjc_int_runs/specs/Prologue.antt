-- How a method in int mode begins: its arguments stand in the first words, and the prologue brings them to the locals
-- of
-- the class file.
use Rattle.std.specs.Prelude.{◌≡◌, ℕ, ◌+◌, ◌≤◌, List, [], ◌∷◌, length, Option, slice_set}
use Rattle.cjc_script.specs.declared.value.Value.{Value}
use Rattle.cjc_ncode.specs.declared.narrow.NInsn.{NInsn}
use Rattle.cjc_ncode.specs.declared.narrow.NMethod.{NMethod}
use Rattle.cjc_ncode.specs.ByLabel.{Named, by_label}
use Rattle.cjc_ncode.specs.IntCode.IntCode.{Frame}
use Rattle.cjc_int_proof.specs.Walks.{Within, walk}
use Rattle.cjc_narrow_proof.specs.Selection.Relation.{Kind, NMemory}
use Rattle.cjc_int_runs.specs.Relation.{IntLocals}
use Rattle.cjc_int_runs.specs.Steps.{behind, spot}

-- a list in which these items stand from a place on
abbrev pub filled : {A : Type 0} → List A → (from : ℕ) → List A → List A
filled xs n [] = xs
filled xs n (y ∷ ys) = filled (slice_set xs n y) (n + 1) ys

-- Instructions that leave the stack empty lead to locals of these kinds, the values of which are those by name.
pub record Brings (l : Named) (f : Frame) (pairs : ℕ) (code : NMethod) (here : ℕ) (insns : List NInsn) (ls : List Kind)
    (locals : List (Option Value)) (words : List (Option Value)) (memory : NMemory) : Type 0 where
  pub after : List (Option Value)
  pub steps : ℕ
  pub few : steps ≤ length insns
  pub leads : walk (by_label l) code steps (spot here [] words memory)
      ≡ Within (spot (behind here insns) [] after memory)
  pub agree : IntLocals memory.heap f pairs ls locals after
