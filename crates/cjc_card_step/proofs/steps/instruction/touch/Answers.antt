use Rattle.std.proofs.lemmas.Result.{IfOk-weaker}
use Rattle.cjc_card_step.specs.Effects.Deeds.{memory}
use Rattle.cjc_card_step.proofs.steps.instruction.touch.Goals as goal

pub returns-in-Load-clause-row : goal.returns-in-Load-clause-row
returns-in-Load-clause-row g c =
    rw c.in-Load.is (IfOk-weaker c.load.result _ _ (λ deed h. h (g.L.LookUps.loaded c.args.links.now)) c.load.ensures)

pub returns-in-Store-clause-row : goal.returns-in-Store-clause-row
returns-in-Store-clause-row g c = rw c.in-Store.is (c.store.ensures.row c.args.room)

pub returns-in-Length-clause-row : goal.returns-in-Length-clause-row
returns-in-Length-clause-row g c = rw c.in-Length.is (IfOk-weaker c.array_length.result _ _
    (λ deed h. h (g.L.LookUps.loaded c.args.links.now) c.args.room) c.array_length.ensures)

pub returns-in-Throw-clause-row : goal.returns-in-Throw-clause-row
returns-in-Throw-clause-row g c = rw c.in-Throw.is (λ statics. c.throw.ensures (g.L.LookUps.loaded c.args.links.now)
    c.args.room (memory c.args.heap.now statics))

pub returns-in-Return-clause-row : goal.returns-in-Return-clause-row
returns-in-Return-clause-row g c = rw c.in-Return.is (λ statics. c.leave.ensures (g.L.LookUps.loaded c.args.links.now)
    c.args.room (memory c.args.heap.now statics))
