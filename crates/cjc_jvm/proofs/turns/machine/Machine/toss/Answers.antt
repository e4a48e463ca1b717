use Rattle.std.proofs.Common.{List, subst}
use Rattle.std.specs.Prelude.{IfOk, slice_get}
use Rattle.std.proofs.lemmas.Result.{IfOk-weaker}
use Rattle.cjc_jvm_semantics.specs.Machine.{Frame, State, heap_of, after_athrow}
use Rattle.cjc_jvm_step.specs.Step.Rows.{store_of}
use Rattle.cjc_jvm.specs.States.{Leads}
use Rattle.cjc_jvm.proofs.TurnsLaws.Tosses.{tossed, with_thrown}
use Rattle.cjc_jvm.proofs.turns.machine.Machine.toss.Goals as goal

pub returns-in-Some-clause-next : goal.returns-in-Some-clause-next
returns-in-Some-clause-next g c =
    let l = g.L.LookUps.linked c.args.links.now in
    let i = c.self.inside in
    let f = c.args.frame in
    let v : State = record {
      frames = i.callers;
      store = store_of i.heap i.statics;
      entries = i.entries.now;
      answers = i.answers.now;
      notes = i.notes;
      spent = i.spent;
    } in
    let exit : State = with_thrown c.throw.new.callers c.throw.new.notes v in
    subst (λ (s : State). IfOk c.throw.result (λ after. (before : List Frame)
    → Leads (after_athrow l (slice_get (heap_of s) c.args.object) f s.frames c.args.object
    (record s { frames = before })) after exit)) c.self.view_is
    (IfOk-weaker c.throw.result _ _ (λ after h. λ before. tossed l f v c.args.object c.in-Some.exception.now
    c.throw.new.callers c.throw.new.notes after h before (slice_get i.heap c.args.object) c.in-Some.ensures)
    c.throw.ensures)
