use Rattle.std.proofs.Common.{◌≡◌, take}
use Rattle.cjc_flow.specs.Constants.{values_of}
use Rattle.cjc_judge.specs.OutOfRange.{constants_of}
use Rattle.cjc_judge.proofs.ranges.constants.values_of.Given as goal

abbrev pub invariant-loop-insn : goal.invariant-loop-insn
invariant-loop-insn l = l.values ≡ values_of (constants_of l.world) (take l.insn-index l.insns)
