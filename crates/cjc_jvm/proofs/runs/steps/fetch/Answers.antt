use Rattle.std.proofs.lemmas.Result.{IfOk-weaker}
use Rattle.cjc_jvm_semantics.specs.Machine.{State}
use Rattle.cjc_jvm.proofs.TurnsLaws.Leading.{leads_as}
use Rattle.cjc_jvm.proofs.RunsLaws.Followed.{fetched}
use Rattle.cjc_jvm.proofs.runs.steps.fetch.Goals as goal

pub returns-in-Leave-clause-next : goal.returns-in-Leave-clause-next
returns-in-Leave-clause-next g c =
    let l = g.L.LookUps.linked c.args.links.now in
    let machine = c.args.machine.now in
    let next = rw c.in-Leave.is at c.in_ok-act_on.ensures.next in
    IfOk-weaker c.give_back.result _ _ (λ after h. λ before.
    leads_as _ _ after c.give_back.new.self (fetched l c.args.first machine.frames (record machine { frames = before })
    c.in-Some.insn.now _ _ c.in-Some.ensures (next before)) (h before l)) c.give_back.ensures.next
