use Rattle.std.proofs.Common.{[], sym, ap, ◌∙◌}
use Rattle.std.specs.Prelude.{if◌then◌else◌}
use Rattle.std.proofs.lemmas.Result.{IfOk-weaker}
use Rattle.cjc_script.specs.Sorts.{signature_of}
use Rattle.cjc_card_semantics.specs.Bytecode.Machine.{returned, typed}
use Rattle.cjc_card_semantics.specs.Machine.ByToken.{by_token}
use Rattle.cjc_card_frame.specs.Kinds.{method_id}
use Rattle.cjc_card.specs.Acts.States.{FrameByToken}
use Rattle.cjc_card.specs.States.{with_frames}
use Rattle.cjc_card.proofs.TurnsLaws.Leading.{leads_as}
use Rattle.cjc_card.proofs.turns.machine.Machine.call_abroad.Goals as goal

pub returns-then-is_at_once-clause-next : goal.returns-then-is_at_once-clause-next
returns-then-is_at_once-clause-next g c =
    let l = g.L.LookUps.loaded c.args.links.now in
    let s = c.args.self.now in
    let f = c.args.frame in
    let id = method_id c.args.method in
    IfOk-weaker c.hand_over.result _ _ (λ after h. λ had.
    leads_as had _ _ after s
    (ap (λ b. if b then returned (by_token l) f.at [] f s.frames (with_frames had s)
    else typed (by_token l) c.args.on_object id (signature_of id.desc) c.args.args.now f s.frames
    (with_frames had s)) (sym c.is_at_once.ensures ∙ c.if-is_at_once.true)
    ∙ ap (λ (h : FrameByToken). returned (by_token l) h.at [] f s.frames (with_frames had s)) (sym c.frame.view_is))
    (h l had s.frames s)) c.hand_over.ensures
