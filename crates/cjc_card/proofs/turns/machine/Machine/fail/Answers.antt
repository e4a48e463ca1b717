use Rattle.std.proofs.Common.{sym, ap, ◌∙◌}
use Rattle.std.specs.Prelude.{Option}
use Rattle.std.proofs.lemmas.Result.{IfOk-weaker}
use Rattle.cjc_card_semantics.specs.Bytecode.Machine.{StuckAt, turn_after_raise}
use Rattle.cjc_card_semantics.specs.Machine.Classes.{Class}
use Rattle.cjc_card_semantics.specs.Machine.ByToken.{by_token}
use Rattle.cjc_card.specs.Acts.States.{FrameByToken}
use Rattle.cjc_card.specs.States.{with_frames}
use Rattle.cjc_card.proofs.TurnsLaws.Leading.{leads_as}
use Rattle.cjc_card.proofs.turns.machine.Machine.fail.Goals as goal

pub returns-in-Some-clause-next : goal.returns-in-Some-clause-next
unfolding by_token
returns-in-Some-clause-next g c =
    let l = g.L.LookUps.loaded c.args.links.now in
    let s = c.args.self.now in
    let f = c.args.frame in
    IfOk-weaker c.raise.result _ _ (λ after h. λ had.
    leads_as had _ _ after c.raise.new.self
    (ap (λ (o : Option Class). turn_after_raise (by_token l) o f s.frames (with_frames had s)
    (StuckAt f.at (with_frames had s))) (sym c.in-Some.ensures))
    (h had (StuckAt f.at (with_frames had s)))) c.raise.ensures.next

pub returns-in-None-clause-next : goal.returns-in-None-clause-next
unfolding by_token
returns-in-None-clause-next g c =
    let l = g.L.LookUps.loaded c.args.links.now in
    let s = c.args.self.now in
    let f = c.args.frame in
    λ had.
    ap (λ (o : Option Class). turn_after_raise (by_token l) o f s.frames (with_frames had s)
    (StuckAt f.at (with_frames had s))) (sym c.in-None.ensures)
    ∙ ap (λ (h : FrameByToken). StuckAt h.at (with_frames had s)) (sym c.frame.view_is)
