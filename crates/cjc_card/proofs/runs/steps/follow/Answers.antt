use Rattle.std.proofs.Common.{ap}
use Rattle.std.proofs.lemmas.Result.{IfOk-weaker}
use Rattle.cjc_card.specs.States.{with_frames}
use Rattle.cjc_card.proofs.TurnsLaws.Leading.{leads_as}
use Rattle.cjc_card.specs.Runs.Steps.{after_deed}
use Rattle.cjc_card.proofs.runs.steps.follow.Goals as goal

pub returns-in-Leave-clause-next : goal.returns-in-Leave-clause-next
returns-in-Leave-clause-next g c =
    let l = g.L.LookUps.loaded c.args.links.now in
    let s = c.args.machine.now in
    IfOk-weaker c.give_back.result _ _ (λ after h. λ had.
    leads_as had _ _ after c.give_back.new.self (ap (λ d. after_deed l d c.args.step.to c.args.next c.args.frame
    s.frames (with_frames had s)) c.in-Leave.is) (h l had)) c.give_back.ensures.next
