use Rattle.std.proofs.Common.{arith}
use Rattle.cjc_card_frame.specs.Objects.{class_of}
use Rattle.cjc_card_link.specs.Tables.{loaded_of}
use Rattle.cjc_card_link.proofs.ByPlace.{named_here, named_later, named_nowhere}
use Rattle.cjc_card_link.proofs.tables.Tables.own_named.Goals as goal

pub returns-in-Some : goal.returns-in-Some
returns-in-Some c =
    named_here c.args.name.now c.loop-part.part (loaded_of c.args.self.now).parts (class_of c.in-Some.class) _
    c.in-Some.ensures c.loop-part.invariant

pub loop-part-preserved : goal.loop-part-preserved
loop-part-preserved c =
    named_later c.args.name.now c.loop-part.part (loaded_of c.args.self.now).parts _ c.in_default.ensures
    c.loop-part.invariant

pub returns : goal.returns
returns c =
    let count = c.part_count-part-end.ensures in
    let done = c.loop-part-test.false in
    named_nowhere c.args.name.now c.loop-part.part (loaded_of c.args.self.now).parts _ (omega (arith, count, done))
    c.loop-part.invariant
