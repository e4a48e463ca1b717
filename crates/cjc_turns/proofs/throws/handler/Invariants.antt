use Rattle.std.proofs.Common.{◌≡◌, drop}
use Rattle.cjc_by_name.specs.Machine
use Rattle.cjc_turns.proofs.throws.handler.Given as goal

abbrev pub invariant-loop-catch : goal.invariant-loop-catch
invariant-loop-catch g l =
    let linked = g.L.LookUps.linked l.links in
    Machine.handler linked l.holder l.catches l.offset l.exception ≡ Machine.handler linked l.holder (drop l.catch-index l.catches) l.offset l.exception
