use Rattle.cjc_layout.specs.Working.{Widening}
use Rattle.cjc_layout.proofs.jumps.widen.Given as goal

abbrev pub invariant-loop-k : goal.invariant-loop-k
invariant-loop-k l = Widening l.insns l.fn.wide l.wide l.places l.changed l.k
