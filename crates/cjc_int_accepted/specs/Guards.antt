-- Acts that follow each other and jump to later ones of their own, before which the words are those behind the jump.
use Rattle.std.specs.Prelude.{◌≡◌, ℕ, zero, suc, ◌+◌, ◌<◌, List, [], ◌∷◌, length}
use Rattle.std.specs.List.{Contains}
use Rattle.cjc_types.specs.Bytecode.Jvm as jvm
use Rattle.cjc_types.specs.Bytecode.declared.insn.JOp.{JOp}
use Rattle.cjc_types.specs.Bytecode.declared.insn.JOp.TheVariants as jop
use Rattle.cjc_types.specs.declared.cell.Cell.{Cell}
use Rattle.cjc_frames.specs.Acts.{stack_behind}
use Rattle.cjc_frames.specs.declared.acts.Act.{Act}
use Rattle.cjc_int_accepted.specs.Runs.{locals_behind}

-- the words of the locals before one of several
abbrev pub locals_before : (index : ℕ) → List Act → (locals stack : List Cell) → List Cell
locals_before zero acts ls s = ls
locals_before (suc index) [] ls s = ls
locals_before (suc index) (a ∷ acts) ls s = locals_before index acts (locals_behind a ls s) (stack_behind a ls s)

-- those of the stack
abbrev pub stack_before : (index : ℕ) → List Act → (locals stack : List Cell) → List Cell
stack_before zero acts ls s = s
stack_before (suc index) [] ls s = s
stack_before (suc index) (a ∷ acts) ls s = stack_before index acts (locals_behind a ls s) (stack_behind a ls s)

-- A jump leads over so many of the acts behind it, of which the first has this label, to one before which the words are
-- those behind the jump.
pub record LeadsOver (to : ℕ → ℕ) (here : ℕ) (acts : List Act) (ls s : List Cell) (offset : ℕ) : Type 0 where
  pub count : ℕ
  pub inside : count < length acts
  pub stands : offset ≡ to (here + count)
  pub locals : locals_before count acts ls s ≡ ls
  pub stack : stack_before count acts ls s ≡ s

-- so does each jump of several, of which the first has this label
abbrev pub LeadOver : (to : ℕ → ℕ) → (here : ℕ) → List Act → (locals stack : List Cell) → Type 0
LeadOver to here [] ls s = Unit {0}
LeadOver to here (a ∷ acts) ls s = ((offset : ℕ) → Contains a.targets offset → LeadsOver to (here + 1) acts
    (locals_behind a ls s) (stack_behind a ls s) offset) × LeadOver to (here + 1) acts (locals_behind a ls s)
    (stack_behind a ls s)

-- baload, saload, iaload and aaload, bastore, sastore, iastore and aastore
pub data IsOnElement : JOp → Type 0 where
  baload : IsOnElement (jop.ArrayLoad jvm.baload)
  saload : IsOnElement (jop.ArrayLoad jvm.saload)
  iaload : IsOnElement (jop.ArrayLoad jvm.iaload)
  aaload : IsOnElement (jop.ArrayLoad jvm.aaload)
  bastore : IsOnElement (jop.ArrayStore jvm.bastore)
  sastore : IsOnElement (jop.ArrayStore jvm.sastore)
  iastore : IsOnElement (jop.ArrayStore jvm.iastore)
  aastore : IsOnElement (jop.ArrayStore jvm.aastore)
