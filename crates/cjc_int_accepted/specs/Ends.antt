-- Acts that follow each other and go elsewhere by the last one alone.
use Rattle.std.specs.Prelude.{◌≡◌, ℕ, Bool, true, List, [], ◌∷◌}
use Rattle.std.specs.List.{Contains}
use Rattle.cjc_types.specs.Bytecode.declared.insn.JOp.{JOp}
use Rattle.cjc_types.specs.Steps.{targets}
use Rattle.cjc_frames.specs.declared.acts.Act.{Act}

-- whether what stands behind them may follow
abbrev pub falls_behind : List Act → Bool
falls_behind [] = true
falls_behind (a ∷ []) = a.falls
falls_behind (a ∷ c ∷ acts) = falls_behind (c ∷ acts)

-- the last one alone jumps, to what is written for targets of an instruction of a class file
abbrev pub LeadAtEnd : (label to : ℕ → ℕ) → JOp → List Act → Type 0
LeadAtEnd label to op [] = Unit {0}
LeadAtEnd label to op (a ∷ []) = (offset : ℕ) → Contains a.targets offset → (target : ℕ) × Contains (targets op) target
    × (offset ≡ to (label target))
LeadAtEnd label to op (a ∷ c ∷ acts) = ((offset : ℕ) → Contains a.targets offset → ⊥) × LeadAtEnd label to op (c ∷ acts)
