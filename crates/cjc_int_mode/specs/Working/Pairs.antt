-- The greatest number of scratch pairs, as the code counts it.
use Rattle.std.specs.Prelude.{ℕ, max, Bool, true, false, List, [], ◌∷◌, Option, Some, None, option_and_then}
use Rattle.std.specs.Prelude.{if◌then◌else◌}
use Rattle.std.specs.List.{list_any}
use Rattle.cjc_flow.specs.Bytecode.declared.insn.JInsn.{JInsn}
use Rattle.cjc_flow.specs.Bytecode.declared.insn.JOp.{JOp}
use Rattle.cjc_flow.specs.LowerTypes.declared.cell.Cell.{Cell}
use Rattle.cjc_flow.specs.LowerTypes.declared.cell.Cell.TheVariants.{Number, Refs, Unusable}
use Rattle.cjc_flow.specs.LowerTypes.declared.state.State.{State}
use Rattle.cjc_flow.specs.LowerTypes.Search.{cells_of}
use Rattle.cjc_ncode.specs.IntCode.IntCode.{scratch_pairs_of}

-- neither a number nor a reference
abbrev pub is_unusable : Cell → Bool
is_unusable Number = false
is_unusable (Refs names) = false
is_unusable Unusable = true

-- the scratch pairs so far, or those of an instruction that is reached; nothing where a cell of the stack is unusable
abbrev pub pairs_at : (pairs : ℕ) → JOp → Option State → Option ℕ
pairs_at pairs op None = Some pairs
pairs_at pairs op (Some x) = if list_any is_unusable (cells_of x.stack) then None
    else Some (max pairs (scratch_pairs_of op))

-- of these instructions and their rows
abbrev pub pairs_from : (pairs : ℕ) → List JInsn → List (Option State) → Option ℕ
pairs_from pairs [] rows = Some pairs
pairs_from pairs (i ∷ insns) [] = Some pairs
pairs_from pairs (i ∷ insns) (row ∷ rows) = option_and_then (λ more. pairs_from more insns rows) (pairs_at pairs i.op
    row)
