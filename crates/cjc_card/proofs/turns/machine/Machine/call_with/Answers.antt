use Rattle.std.proofs.Common.{sym, ap, ◌∙◌, Bool, false}
use Rattle.std.proofs.lemmas.Result.{IfOk-weaker}
use Rattle.cjc_card_semantics.specs.Bytecode.Machine.{Reached, reaches, with_args}
use Rattle.cjc_card_semantics.specs.Machine.Methods.{Code}
use Rattle.cjc_card_semantics.specs.Machine.ByToken.{by_token}
use Rattle.cjc_card_frame.specs.Kinds.{callee_of}
use Rattle.cjc_card.specs.States.{with_frames}
use Rattle.cjc_card.proofs.TurnsLaws.Leading.{leads_as}
use Rattle.cjc_card.proofs.turns.machine.Machine.call_with.Goals as goal

pub returns-then-is_on_object-clause-next : goal.returns-then-is_on_object-clause-next
unfolding by_token
returns-then-is_on_object-clause-next g c =
    let l = g.L.LookUps.loaded c.args.links.now in
    let s = c.args.self.now in
    IfOk-weaker c.receive.result _ _ (λ after h. λ had.
    leads_as had _ _ after c.receive.new.self
    (ap (λ (b : Bool). with_args (by_token l) b (callee_of c.args.callee) c.args.args.now c.args.frame s.frames
    (with_frames had s)) (sym c.is_on_object.ensures ∙ c.if-is_on_object.true))
    (h had)) c.receive.ensures.next

pub returns-else-is_on_object-clause-next : goal.returns-else-is_on_object-clause-next
unfolding by_token
returns-else-is_on_object-clause-next g c =
    let l = g.L.LookUps.loaded c.args.links.now in
    let s = c.args.self.now in
    IfOk-weaker c.reach.result _ _ (λ after h. λ had.
    leads_as had _ _ after c.reach.new.self
    (ap (λ (b : Bool). with_args (by_token l) b (callee_of c.args.callee) c.args.args.now c.args.frame s.frames
    (with_frames had s)) (sym c.is_on_object.ensures ∙ c.if-is_on_object.false)
    ∙ ap (λ (r : Reached Code). reaches (by_token l) r false c.args.args.now c.args.frame s.frames (with_frames had s))
    (sym c.reached-reached.ensures))
    (h had)) c.reach.ensures.next
