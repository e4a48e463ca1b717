use Rattle.std.proofs.Common.{◌≡◌, ◌++◌, drop}
use Rattle.cjc_code.specs.Unfit.{unfit_places}
use Rattle.cjc_code.proofs.unfit.put_unfit.Given as goal

abbrev pub invariant-loop-insn : goal.invariant-loop-insn
invariant-loop-insn l = l.places ++ unfit_places l.major l.pool l.max_locals l.starts (drop l.insn-index l.insns)
    ≡ l.fn.places ++ unfit_places l.major l.pool l.max_locals l.starts l.insns
