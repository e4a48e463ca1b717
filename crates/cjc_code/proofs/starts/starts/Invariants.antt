use Rattle.std.proofs.Common.{◌≡◌, map, take}
use Rattle.cjc_code.specs.declared.raw.Raw.{Raw}
use Rattle.cjc_code.specs.Unfit.{marks}
use Rattle.cjc_code.proofs.starts.starts.Given as goal

abbrev pub invariant-loop-insn : goal.invariant-loop-insn
invariant-loop-insn l = l.starts.items ≡ marks (map (λ (i : Raw). i.at) (take l.insn-index l.cut.insns)) 0 l.size
