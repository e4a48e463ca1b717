-- The words that rule 417 speaks of are those of the written method.
use Rattle.std.proofs.Common.{◌≡◌, ℕ, ◌+◌, max, List, [], ◌∷◌, Option, Some, None, refl, ap}
use Rattle.cjc_ncode.specs.Written.{reached}
use Rattle.cjc_ncode.specs.IntCode.IntCode.{scratch_pairs, scratch_pairs_of}
use Rattle.cjc_flow.specs.Bytecode.declared.insn.JInsn.{JInsn}
use Rattle.cjc_flow.specs.LowerTypes.declared.state.State.{State}
use Rattle.cjc_flow.specs.LowerIntervals.Frames.{RangeState}
use Rattle.cjc_int_mode.specs.Written.{reached_from, most_pairs}

pub pairs_same : (ranges : List (Option RangeState)) (place : ℕ) (insns : List JInsn) (types : List (Option State))
    → scratch_pairs (reached_from ranges place insns types) ≡ most_pairs (reached insns types)
pairs_same ranges place [] types = refl
pairs_same ranges place (i ∷ insns) [] = refl
pairs_same ranges place (i ∷ insns) (None ∷ types) = pairs_same ranges (place + 1) insns types
pairs_same ranges place (i ∷ insns) (Some t ∷ types) = ap (max (scratch_pairs_of i.op)) (pairs_same ranges (place + 1)
    insns types)
