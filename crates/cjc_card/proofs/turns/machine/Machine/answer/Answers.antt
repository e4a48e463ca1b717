use Rattle.std.proofs.Common.{◌≡◌, ◌∷◌, List, ap, ◌∙◌, subst}
use Rattle.std.specs.Prelude.{IfOk, option_map, if◌then◌else◌}
use Rattle.std.proofs.lemmas.Result.{IfOk-weaker}
use Rattle.cjc_script.specs.declared.report.Outcome.TheVariants.{Unfit}
use Rattle.cjc_jvm.specs.Acts.Meant.{sort_meant}
use Rattle.cjc_card_semantics.specs.Bytecode.Machine.{Ended, turn_after_answer, turn_after_reply}
use Rattle.cjc_card_semantics.specs.Machine.ByToken.{by_token}
use Rattle.cjc_card_step.specs.Effects.Deeds.{memory}
use Rattle.cjc_card.specs.Acts.States.{FrameByToken, StateByToken}
use Rattle.cjc_card.specs.States.{Leads, with_frames}
use Rattle.cjc_card.proofs.TurnsLaws.Abroad.{answer_by, with_answer}
use Rattle.cjc_card.proofs.TurnsLaws.Leading.{leads_as}
use Rattle.cjc_card.proofs.turns.machine.Machine.answer.Goals as goal

pub returns-then-branch-clause-next : goal.returns-then-branch-clause-next
returns-then-branch-clause-next g c =
    let l = g.L.LookUps.loaded c.args.links.now in
    let i = c.self.inside in
    let f = c.args.frame in
    let result = option_map sort_meant c.args.sort in
    let a = c.in-Some.answer.now in
    let rest = c.in-Some.rest.now in
    let heap = c.perform.new.heap in
    let v : StateByToken = record {
      frames = i.callers;
      memory = memory i.heap i.statics;
      entries = i.entries.now;
      answers = i.answers.now;
      notes = i.notes;
      spent = i.spent;
    } in
    let next : i.answers.now ≡ a ∷ rest = c.in-Some.ensures.cases.0 in
    let acts = rw c.items.ensures at c.in_ok-perform.ensures.acts in
    subst (λ (s : StateByToken). IfOk c.reply.result (λ after. (had : List FrameByToken)
    → Leads had (turn_after_answer (by_token l) s.answers result f s.frames (with_frames had s)) after
    c.reply.new.self)) c.self.view_is
    (IfOk-weaker c.reply.result _ _ (λ after h. λ had.
    leads_as had _ _ after c.reply.new.self
    (answer_by l a rest result f i.callers v heap c.in_ok-perform.field-0 next acts had
    ∙ ap (λ done. if done then turn_after_reply (by_token l) a.reply a.number result f i.callers
    (with_answer l rest heap had v) else Ended (Unfit a.number) (with_answer l rest heap had v)) c.if-branch.true)
    (h had)) c.reply.ensures.next)

pub returns-else-branch-clause-next : goal.returns-else-branch-clause-next
returns-else-branch-clause-next g c =
    let l = g.L.LookUps.loaded c.args.links.now in
    let i = c.self.inside in
    let f = c.args.frame in
    let result = option_map sort_meant c.args.sort in
    let a = c.in-Some.answer.now in
    let rest = c.in-Some.rest.now in
    let heap = c.perform.new.heap in
    let v : StateByToken = record {
      frames = i.callers;
      memory = memory i.heap i.statics;
      entries = i.entries.now;
      answers = i.answers.now;
      notes = i.notes;
      spent = i.spent;
    } in
    let next : i.answers.now ≡ a ∷ rest = c.in-Some.ensures.cases.0 in
    let acts = rw c.items.ensures at c.in_ok-perform.ensures.acts in
    subst (λ (s : StateByToken). (had : List FrameByToken) → turn_after_answer (by_token l) s.answers result f s.frames
    (with_frames had s) ≡ Ended (Unfit a.number) (with_answer l rest heap had v)) c.self.view_is
    (λ had.
    answer_by l a rest result f i.callers v heap c.in_ok-perform.field-0 next acts had
    ∙ ap (λ done. if done then turn_after_reply (by_token l) a.reply a.number result f i.callers
    (with_answer l rest heap had v) else Ended (Unfit a.number) (with_answer l rest heap had v)) c.if-branch.false)
