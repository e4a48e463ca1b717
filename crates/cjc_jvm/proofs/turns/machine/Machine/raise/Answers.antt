use Rattle.std.proofs.Common.{List, subst}
use Rattle.std.specs.Prelude.{IfOk}
use Rattle.std.proofs.lemmas.Result.{IfOk-weaker}
use Rattle.cjc_jvm_semantics.specs.Machine.{Frame, State, with_heap, after_raise}
use Rattle.cjc_jvm_step.specs.Step.Rows.{store_of}
use Rattle.cjc_jvm.specs.States.{Leads}
use Rattle.cjc_jvm.proofs.TurnsLaws.Tosses.{raised, with_thrown}
use Rattle.cjc_jvm.proofs.turns.machine.Machine.raise.Goals as goal

pub returns-clause-next : goal.returns-clause-next
returns-clause-next g c =
    let l = g.L.LookUps.linked c.args.links.now in
    let i = c.self.inside in
    let f = c.args.frame in
    let class = c.args.class.now in
    let v : State = record {
      frames = i.callers;
      store = store_of i.heap i.statics;
      entries = i.entries.now;
      answers = i.answers.now;
      notes = i.notes;
      spent = i.spent;
    } in
    let exit : State = with_thrown c.throw.new.callers c.throw.new.notes (with_heap c.push.new.self v) in
    subst (λ (s : State). IfOk c.throw.result (λ after. (before : List Frame)
    → Leads (after_raise l class f s.frames (record s { frames = before })) after exit)) c.self.view_is
    (IfOk-weaker c.throw.result _ _ (λ after h. λ before. raised l f v c.len-object.result class c.throw.new.callers
    c.throw.new.notes after h before c.push.new.self c.in_ok-object.field-0 c.in_ok-push.ensures
    c.in_ok-object.ensures c.len-object.ensures) c.throw.ensures)
