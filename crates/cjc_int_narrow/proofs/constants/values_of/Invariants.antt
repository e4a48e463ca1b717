use Rattle.std.proofs.Common.{◌≡◌, take}
use Rattle.cjc_int_mode.specs.Flow.Constants.{values_of}
use Rattle.cjc_int_narrow.specs.Constants.{constants_of}
use Rattle.cjc_int_narrow.proofs.constants.values_of.Given as goal

abbrev pub invariant-loop-insn : goal.invariant-loop-insn
invariant-loop-insn l = l.values ≡ values_of (constants_of l.world) (take l.insn-index l.insns)
