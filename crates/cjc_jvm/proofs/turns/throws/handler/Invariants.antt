use Rattle.std.proofs.Common.{◌≡◌, drop}
use Rattle.cjc_jvm_semantics.specs.Machine
use Rattle.cjc_jvm.proofs.turns.throws.handler.Given as goal

abbrev pub invariant-loop-catch : goal.invariant-loop-catch
invariant-loop-catch g l =
    let linked = g.L.LookUps.linked l.links in
    Machine.handler linked l.holder l.catches l.offset l.exception ≡ Machine.handler linked l.holder
    (drop l.catch-index l.catches) l.offset l.exception
