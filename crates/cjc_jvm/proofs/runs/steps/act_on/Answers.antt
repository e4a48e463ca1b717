use Rattle.std.proofs.Common.{◌≡◌, ◌≤◌, List, subst}
use Rattle.std.specs.Prelude.{IfOk}
use Rattle.std.proofs.lemmas.Result.{IfOk-weaker}
use Rattle.cjc_jvm_semantics.specs.Effects.{effect}
use Rattle.cjc_jvm_semantics.specs.Machine.{Frame, State, after_effect}
use Rattle.cjc_jvm_step.specs.Step.Rows.{store_of}
use Rattle.cjc_jvm.specs.States.{objects_at_most}
use Rattle.cjc_jvm.specs.Runs.Deeds.{after_deed, most_after}
use Rattle.cjc_jvm.proofs.RunsLaws.Followed.{at_most, goes_on, stands}
use Rattle.cjc_jvm_semantics.proofs.BytesOptions.{option_both}
use Rattle.cjc_jvm.proofs.runs.steps.act_on.Goals as goal

pub returns-clause-next : goal.returns-clause-next
returns-clause-next g c =
    let l = g.L.LookUps.linked c.args.links.now in
    let i = c.machine.inside in
    let f = c.args.frame.now in
    let v : State = record {
      frames = i.callers;
      store = store_of i.heap i.statics;
      entries = i.entries.now;
      answers = i.answers.now;
      notes = i.notes;
      spent = i.spent;
    } in
    let store = store_of c.act.new.heap c.act.new.statics in
    subst (λ (s : State). IfOk c.act.result (λ deed. (before : List Frame)
    → after_effect l (effect l f.method f.at f.locals s.store c.args.op.now f.stack) f s.frames
    (record s { frames = before }) ≡ after_deed l deed c.act.new.frame i.callers (record v {
      frames = before;
      store = store;
    }))) c.machine.view_is
    (IfOk-weaker c.act.result _ _ (λ deed row. λ before. goes_on l f c.act.new.frame (effect l f.method f.at f.locals
    v.store c.args.op.now f.stack) v store i.callers before deed row) c.act.ensures.row)

pub returns-clause-inside : goal.returns-clause-inside
returns-clause-inside g c =
    let i = c.machine.inside in
    IfOk-weaker c.act.result _ _ (λ deed row. stands deed c.args.frame.now c.act.new.frame _ (store_of i.heap i.statics)
    (store_of c.act.new.heap c.act.new.statics) row c.requires.inside) c.act.ensures.row

pub returns-clause-most : goal.returns-clause-most
returns-clause-most g c =
    let i = c.machine.inside in
    let v : State = record {
      frames = i.callers;
      store = store_of i.heap i.statics;
      entries = i.entries.now;
      answers = i.answers.now;
      notes = i.notes;
      spent = i.spent;
    } in
    let store = store_of c.act.new.heap c.act.new.statics in
    subst (λ (s : State). IfOk c.act.result (λ deed. objects_at_most (record v { store = store }) ≤ most_after deed
    (objects_at_most s))) c.machine.view_is
    (IfOk-weaker c.act.result _ _ (λ deed h. at_most _ _ deed c.args.frame.now c.act.new.frame _ v.store store h.0 h.1)
    (option_both c.act.result _ _ c.act.ensures.row c.act.ensures.len))
