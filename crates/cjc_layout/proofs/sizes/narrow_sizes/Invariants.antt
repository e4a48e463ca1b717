use Rattle.std.proofs.Common.{◌≡◌, map, take, false}
use Rattle.cjc_layout.specs.Sizes.{insn_size}
use Rattle.cjc_layout.proofs.sizes.narrow_sizes.Given as goal

abbrev pub invariant-loop-k : goal.invariant-loop-k
invariant-loop-k l = l.sizes.items ≡ map (insn_size false) (take l.k l.insns)
