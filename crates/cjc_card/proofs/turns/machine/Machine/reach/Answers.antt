use Rattle.std.proofs.Common.{ap}
use Rattle.std.proofs.lemmas.Result.{IfOk-weaker}
use Rattle.cjc_card_semantics.specs.Bytecode.Machine.{reaches}
use Rattle.cjc_card_semantics.specs.Machine.ByToken.{by_token}
use Rattle.cjc_card_frame.specs.Kinds.{reached_of}
use Rattle.cjc_card.specs.States.{with_frames}
use Rattle.cjc_card.proofs.TurnsLaws.Leading.{leads_as}
use Rattle.cjc_card.proofs.turns.machine.Machine.reach.Goals as goal

pub returns-in-Abroad-clause-next : goal.returns-in-Abroad-clause-next
returns-in-Abroad-clause-next g c =
    let l = g.L.LookUps.loaded c.args.links.now in
    let s = c.args.self.now in
    IfOk-weaker c.call_abroad.result _ _ (λ after h. λ had.
    leads_as had _ _ after c.call_abroad.new.self
    (ap (λ r. reaches (by_token l) (reached_of r) c.args.on_object c.args.args.now c.args.frame s.frames
    (with_frames had s)) c.in-Abroad.is)
    (h had)) c.call_abroad.ensures.next
