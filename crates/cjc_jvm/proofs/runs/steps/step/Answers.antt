use Rattle.std.proofs.Common.{◌≡◌, ◌+◌, ◌≤◌, sym, ap, ◌∙◌, subst}
use Rattle.cjc_jvm_step.specs.CardSemantics.Bytecode.Runs.{On, Over}
use Rattle.cjc_jvm_semantics.specs.Machine.{State, report, spend}
use Rattle.cjc_jvm_step.specs.Step.Rows.{store_of}
use Rattle.cjc_jvm.specs.States.{objects_at_most, with_frame}
use Rattle.cjc_jvm.proofs.RunsLaws.Spends.{spend_over}
use Rattle.cjc_jvm.proofs.runs.steps.step.Goals as goal

pub returns-in-On-clause-next : goal.returns-in-On-clause-next
returns-in-On-clause-next g c =
    let l = g.L.LookUps.linked c.args.links.now in
    let turned = rw c.in-On.is at c.in_ok-top.ensures.next in
    λ before. ap (λ m. spend l m) (turned before ∙ ap (λ (s : State). On (with_frame c.in-On.top s))
    (sym c.machine.view_is))

pub returns-in-On-clause-most : goal.returns-in-On-clause-most
returns-in-On-clause-most g c =
    subst (λ (s : State). objects_at_most s ≤ objects_at_most c.args.machine.now + 1) (sym c.machine.view_is)
    c.in_ok-top.ensures.most

pub returns-in-Ended-clause-most : goal.returns-in-Ended-clause-most
returns-in-Ended-clause-most g c =
    subst (λ (s : State). objects_at_most s ≤ objects_at_most c.args.machine.now + 1) (sym c.machine.view_is)
    c.in_ok-top.ensures.most

pub returns-in-Ended-clause-next : goal.returns-in-Ended-clause-next
returns-in-Ended-clause-next g c =
    let l = g.L.LookUps.linked c.args.links.now in
    let i = c.machine.inside in
    let o = c.in-Ended.outcome in
    let v : State = record {
      frames = i.callers;
      store = store_of i.heap i.statics;
      entries = i.entries.now;
      answers = i.answers.now;
      notes = i.notes;
      spent = i.spent;
    } in
    let turned = rw c.in-Ended.is at c.in_ok-top.ensures.next in
    λ before.
    spend_over l _ o c.is_spent.result v (turned before ∙ ap (λ (s : State). Over (report o s)) (sym c.machine.view_is))
    (c.is_spent.ensures l)
    ∙ ap (λ n. Over (report o (record v { spent = v.spent + n }))) (sym c.from.ensures)
