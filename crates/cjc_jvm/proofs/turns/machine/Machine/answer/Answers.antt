use Rattle.std.proofs.Common.{◌≡◌, ◌∷◌, List, ap, ◌∙◌, subst}
use Rattle.std.specs.Prelude.{IfOk, option_map, if◌then◌else◌}
use Rattle.std.proofs.lemmas.Result.{IfOk-weaker}
use Rattle.cjc_jvm_step.specs.Script.declared.report.Outcome.TheVariants.{Unfit}
use Rattle.cjc_jvm_step.specs.CardSemantics.Bytecode.Runs.{Over}
use Rattle.cjc_jvm_semantics.specs.Machine.{Frame, State, report, after_answer, after_reply}
use Rattle.cjc_jvm.specs.Acts.Meant.{sort_meant}
use Rattle.cjc_jvm_step.specs.Step.Rows.{store_of}
use Rattle.cjc_jvm.specs.States.{Leads}
use Rattle.cjc_jvm.proofs.TurnsLaws.Abroad.{answer_by, with_answer}
use Rattle.cjc_jvm.proofs.TurnsLaws.Leading.{leads_as}
use Rattle.cjc_jvm.proofs.turns.machine.Machine.answer.Goals as goal

pub returns-then-branch-clause-next : goal.returns-then-branch-clause-next
returns-then-branch-clause-next g c =
    let l = g.L.LookUps.linked c.args.links.now in
    let i = c.self.inside in
    let f = c.args.frame in
    let result = option_map sort_meant c.args.returned in
    let a = c.in-Some.answer.now in
    let rest = c.in-Some.rest.now in
    let heap = c.perform.new.heap in
    let v : State = record {
      frames = i.callers;
      store = store_of i.heap i.statics;
      entries = i.entries.now;
      answers = i.answers.now;
      notes = i.notes;
      spent = i.spent;
    } in
    let next : i.answers.now ≡ a ∷ rest = c.in-Some.ensures.cases.0 in
    let acts = rw c.items.ensures at c.in_ok-perform.ensures.acts in
    subst (λ (s : State). IfOk c.reply.result (λ after. (before : List Frame)
    → Leads (after_answer l s.answers result f s.frames (record s { frames = before })) after c.reply.new.self))
    c.self.view_is
    (IfOk-weaker c.reply.result _ _ (λ after h. λ before.
    leads_as _ _ after c.reply.new.self
    (answer_by l a rest result f i.callers v heap c.in_ok-perform.field-0 next acts before
    ∙ ap (λ done. if done then after_reply l a.reply a.number result f i.callers (with_answer rest heap before v)
    else Over (report (Unfit a.number) (with_answer rest heap before v))) c.if-branch.true)
    (h before)) c.reply.ensures.next)

pub returns-clause-next : goal.returns-clause-next
returns-clause-next g c =
    let l = g.L.LookUps.linked c.args.links.now in
    let i = c.self.inside in
    let f = c.args.frame in
    let result = option_map sort_meant c.args.returned in
    let a = c.in-Some.answer.now in
    let rest = c.in-Some.rest.now in
    let heap = c.perform.new.heap in
    let v : State = record {
      frames = i.callers;
      store = store_of i.heap i.statics;
      entries = i.entries.now;
      answers = i.answers.now;
      notes = i.notes;
      spent = i.spent;
    } in
    let next : i.answers.now ≡ a ∷ rest = c.in-Some.ensures.cases.0 in
    let acts = rw c.items.ensures at c.in_ok-perform.ensures.acts in
    subst (λ (s : State). (before : List Frame)
    → after_answer l s.answers result f s.frames (record s { frames = before })
    ≡ Over (report (Unfit a.number) (with_answer rest heap i.callers v))) c.self.view_is
    (λ before.
    answer_by l a rest result f i.callers v heap c.in_ok-perform.field-0 next acts before
    ∙ ap (λ done. if done then after_reply l a.reply a.number result f i.callers (with_answer rest heap before v)
    else Over (report (Unfit a.number) (with_answer rest heap before v))) c.if-branch.false)
