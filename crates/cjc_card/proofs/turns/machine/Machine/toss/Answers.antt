use Rattle.std.proofs.Common.{List, subst}
use Rattle.std.specs.Prelude.{IfOk, slice_get}
use Rattle.std.proofs.lemmas.Result.{IfOk-weaker}
use Rattle.cjc_card_semantics.specs.Bytecode.Machine.{turn_after_toss}
use Rattle.cjc_card_semantics.specs.Machine.ByToken.{by_token}
use Rattle.cjc_card_frame.specs.Objects.{shape_of}
use Rattle.cjc_card_step.specs.Effects.Deeds.{memory}
use Rattle.cjc_card.specs.Acts.States.{FrameByToken, StateByToken}
use Rattle.cjc_card.specs.States.{Leads, heap_of, with_frames}
use Rattle.cjc_card.proofs.TurnsLaws.Tosses.{tossed_by, with_thrown}
use Rattle.cjc_card.proofs.turns.machine.Machine.toss.Goals as goal

pub returns-in-Some-clause-next : goal.returns-in-Some-clause-next
returns-in-Some-clause-next g c =
    let l = g.L.LookUps.loaded c.args.links.now in
    let i = c.self.inside in
    let f = c.args.frame in
    let v : StateByToken = record {
      frames = i.callers;
      memory = memory i.heap i.statics;
      entries = i.entries.now;
      answers = i.answers.now;
      notes = i.notes;
      spent = i.spent;
    } in
    let exit : StateByToken = with_thrown c.throw.new.callers c.throw.new.notes v in
    subst (λ (s : StateByToken). IfOk c.throw.result (λ after. (had : List FrameByToken)
    → Leads had (turn_after_toss (by_token l) (slice_get (heap_of s) c.args.object) f s.frames c.args.object
    (with_frames had s)) after exit)) c.self.view_is
    (IfOk-weaker c.throw.result _ _ (λ after h. λ had. tossed_by l f v c.args.object (shape_of c.in-Some.kind)
    c.throw.new.callers c.throw.new.notes after h had (slice_get i.heap c.args.object) c.in-Some.ensures)
    c.throw.ensures)
