use Rattle.std.proofs.Common.{sym}
use Rattle.jcconv.proofs.Completing.{completes}
use Rattle.jcconv.specs.Asked.{asked}
use Rattle.jcconv.proofs.Promising.{promised}
use Rattle.jcconv.proofs.top.run.Goals as goal

pub returns-in-Some-clause-complete : goal.returns-in-Some-clause-complete
returns-in-Some-clause-complete g c =
    let is = rw c.in-Some.is at c.asked_by.ensures in
    rw (sym is) (completes _ _ _ _ _ _ c.act.ensures)

pub returns-in-Some-clause-alike : goal.returns-in-Some-clause-alike
returns-in-Some-clause-alike g c =
    let is = rw c.in-Some.is at c.asked_by.ensures in
    rw (sym is) (λ done. promised (asked c.in-Some.command) _ _ _ _ _ c.act.ensures done)
