use Rattle.std.proofs.Common.{◌≡◌, ◌++◌, drop}
use Rattle.cjc_narrow.specs.Pairs.Roles.{steps_from}
use Rattle.cjc_narrow.specs.Select.Working.Names.{resolution_of}
use Rattle.cjc_narrow.proofs.select.pairs.steps.Given as goal

abbrev pub invariant-loop-k : goal.invariant-loop-k
invariant-loop-k l =
    let r = resolution_of l.names in
    l.row ++ steps_from l.keeps r l.marks l.catches l.k l.before (drop l.k l.insns) (drop l.k l.reaches)
    ≡ steps_from l.keeps r l.marks l.catches 0 0 l.insns l.reaches
