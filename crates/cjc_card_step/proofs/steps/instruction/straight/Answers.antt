use Rattle.std.proofs.lemmas.Result.{IfOk-weaker}
use Rattle.cjc_card_step.specs.Effects.Deeds.{memory}
use Rattle.cjc_card_step.proofs.steps.instruction.straight.Goals as goal

pub returns-in-Plain-clause-row : goal.returns-in-Plain-clause-row
returns-in-Plain-clause-row g c =
    rw c.in-Plain.is (IfOk-weaker c.calculate.result _ _ (λ deed h. λ at table. h (g.L.LookUps.loaded c.args.links.now)
    (memory c.args.heap.now c.args.statics.now)) c.calculate.ensures)

pub returns-in-Touch-clause-row : goal.returns-in-Touch-clause-row
returns-in-Touch-clause-row g c =
    rw c.in-Touch.is (IfOk-weaker c.touch.result _ _ (λ deed h. λ at table. h c.args.statics.now) c.touch.ensures.row)

pub returns-in-Use-clause-row : goal.returns-in-Use-clause-row
returns-in-Use-clause-row g c = rw c.in-Use.is c.use_operand.ensures.row

pub returns-in-CallInterface-clause-row : goal.returns-in-CallInterface-clause-row
returns-in-CallInterface-clause-row g c = rw c.in-CallInterface.is (λ at table. c.call_interface.ensures at c.args.room
    table (memory c.args.heap.now c.args.statics.now))

pub returns-in-NewNumbers-clause-row : goal.returns-in-NewNumbers-clause-row
returns-in-NewNumbers-clause-row g c = rw c.in-NewNumbers.is (IfOk-weaker c.new_array.result _ _ (λ deed h. λ at table.
    h (g.L.LookUps.loaded c.args.links.now) c.args.part at table c.args.statics.now) c.new_array.ensures.row)

pub returns-in-Cast-clause-row : goal.returns-in-Cast-clause-row
returns-in-Cast-clause-row g c = rw c.in-Cast.is (λ at table. c.cast.ensures at c.args.room table c.args.statics.now)

pub returns-in-Ask-clause-row : goal.returns-in-Ask-clause-row
returns-in-Ask-clause-row g c = rw c.in-Ask.is (IfOk-weaker c.ask.result _ _ (λ deed h. λ at table. h at c.args.room
    table c.args.statics.now) c.ask.ensures)
