use Rattle.std.proofs.Common.{◌≡◌, map, take}
use Rattle.cjc_check.proofs.codes.code.starts_of.Given as goal

abbrev pub invariant-loop-insn : goal.invariant-loop-insn
invariant-loop-insn l = l.starts ≡ map (λ a. a.at) (take l.insn-index l.insns)
