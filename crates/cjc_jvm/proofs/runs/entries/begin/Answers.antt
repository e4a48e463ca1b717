use Rattle.std.proofs.Common.{◌≡◌, ◌∷◌, [], sym, ap, ◌∙◌, subst, refl, true, false}
use Rattle.std.specs.Prelude.{Some, None}
use Rattle.cjc_jvm_step.specs.Script.declared.report.Outcome.TheVariants.{Unfit}
use Rattle.cjc_jvm_step.specs.Script.Sorts.{signature_of}
use Rattle.cjc_jvm_step.specs.CardSemantics.Bytecode.Runs.{On, Over}
use Rattle.cjc_jvm_semantics.specs.Machine.{Frame, State, args_fit, begins, frame_for_call, report, with_heap}
use Rattle.cjc_jvm_step.specs.Step.Rows.{store_of}
use Rattle.cjc_jvm.proofs.RunsLaws.Begins.{fits, unfit}
use Rattle.cjc_jvm.proofs.runs.entries.begin.Goals as goal

pub returns-then-not-branch-clause-next : goal.returns-then-not-branch-clause-next
returns-then-not-branch-clause-next g c =
    let l = g.L.LookUps.linked c.args.links.now in
    let i = c.machine.inside in
    let e = c.in-Some.entry.now in
    let v : State = record {
      frames = i.callers;
      store = store_of i.heap i.statics;
      entries = i.entries.now;
      answers = i.answers.now;
      notes = i.notes;
      spent = i.spent;
    } in
    let acts = rw c.items.ensures at c.in_ok-perform.ensures.acts in
    subst (λ (s : State). begins l [] s.entries s ≡ Over (report (Unfit e.number) (with_heap c.perform.new.heap v)))
    c.machine.view_is
    (unfit l e c.in-Some.rest.now v c.perform.new.heap c.in_ok-perform.field-0 acts c.in-Some.ensures.cases.0
    c.if-not-branch.true)

pub returns-in_default-entry_method-clause-next : goal.returns-in_default-entry_method-clause-next
returns-in_default-entry_method-clause-next g c =
    let l = g.L.LookUps.linked c.args.links.now in
    let i = c.machine.inside in
    let e = c.in-Some.entry.now in
    let v : State = record {
      frames = i.callers;
      store = store_of i.heap i.statics;
      entries = i.entries.now;
      answers = i.answers.now;
      notes = i.notes;
      spent = i.spent;
    } in
    let acts = rw c.items.ensures at c.in_ok-perform.ensures.acts in
    subst (λ (s : State). begins l [] s.entries s ≡ Over (report (Unfit e.number) (with_heap c.perform.new.heap v)))
    c.machine.view_is
    (fits l e c.in-Some.rest.now v c.perform.new.heap c.in_ok-perform.field-0 acts c.in-Some.ensures.cases.0
    c.if-not-branch.false None (args_fit l c.perform.new.heap e (signature_of e.method.desc))
    c.in_default-entry_method.ensures refl)

pub returns-then-not-branch-2-clause-next : goal.returns-then-not-branch-2-clause-next
returns-then-not-branch-2-clause-next g c =
    let l = g.L.LookUps.linked c.args.links.now in
    let i = c.machine.inside in
    let e = c.in-Some.entry.now in
    let v : State = record {
      frames = i.callers;
      store = store_of i.heap i.statics;
      entries = i.entries.now;
      answers = i.answers.now;
      notes = i.notes;
      spent = i.spent;
    } in
    let acts = rw c.items.ensures at c.in_ok-perform.ensures.acts in
    subst (λ (s : State). begins l [] s.entries s ≡ Over (report (Unfit e.number) (with_heap c.perform.new.heap v)))
    c.machine.view_is
    (fits l e c.in-Some.rest.now v c.perform.new.heap c.in_ok-perform.field-0 acts c.in-Some.ensures.cases.0
    c.if-not-branch.false (Some c.in-Some-entry_method.method.now) false c.in-Some-entry_method.ensures
    (sym c.if-not-branch-2.true ∙ c.in_ok-args_fit.ensures))

pub returns-clause-next : goal.returns-clause-next
returns-clause-next g c =
    let l = g.L.LookUps.linked c.args.links.now in
    let i = c.machine.inside in
    let e = c.in-Some.entry.now in
    let m = c.in-Some-entry_method.method.now in
    let v : State = record {
      frames = i.callers;
      store = store_of i.heap i.statics;
      entries = i.entries.now;
      answers = i.answers.now;
      notes = i.notes;
      spent = i.spent;
    } in
    let acts = rw c.items.ensures at c.in_ok-perform.ensures.acts in
    let frame : c.in_ok-frame.frame ≡ frame_for_call m e.args = c.in_ok-frame.ensures
    ∙ ap (λ args. frame_for_call m args) c.items-2.ensures in
    subst (λ (s : State). begins l [] s.entries s ≡ On (record v {
      frames = c.in_ok-frame.frame ∷ [];
      entries = c.in-Some.rest.now;
      store = store_of c.perform.new.heap i.statics;
    })) c.machine.view_is
    (fits l e c.in-Some.rest.now v c.perform.new.heap c.in_ok-perform.field-0 acts c.in-Some.ensures.cases.0
    c.if-not-branch.false (Some m) true c.in-Some-entry_method.ensures (sym c.if-not-branch-2.false
    ∙ c.in_ok-args_fit.ensures)
    ∙ ap (λ (f : Frame). On (record v {
      frames = f ∷ [];
      entries = c.in-Some.rest.now;
      store = store_of c.perform.new.heap i.statics;
    })) (sym frame))
