use Rattle.std.proofs.Common.{ap}
use Rattle.cjc_by_name.specs.Machine.{spend}
use Rattle.cjc_jvm_run.proofs.steps.step.Goals as goal

pub returns-in-On-clause-next : goal.returns-in-On-clause-next
returns-in-On-clause-next g c =
    let l = g.L.LookUps.linked c.args.links.now in
    let turned = rw c.in-On.is at c.in_ok-fetch.ensures.next in
    λ before. ap (λ m. spend l m) (turned before)
