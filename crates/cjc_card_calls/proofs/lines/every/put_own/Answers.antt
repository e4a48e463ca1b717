use Rattle.std.proofs.Common.{map, arith}
use Rattle.cjc_card_frame.specs.Objects.{class_of}
use Rattle.cjc_card_link.specs.Tables.{loaded_of}
use Rattle.cjc_card_calls.proofs.LinesLaws.Putting.{parts_all, parts_more}
use Rattle.cjc_card_calls.proofs.lines.every.put_own.Goals as goal

pub loop-part-preserved : goal.loop-part-preserved
loop-part-preserved c =
    parts_more c.loop-part.part (loaded_of c.args.tables.now).parts (map class_of c.loop-part.classes) _ _
    c.in_ok-put_part.ensures c.loop-part.invariant

pub returns : goal.returns
returns c =
    let count = c.part_count-part-end.ensures in
    let done = c.loop-part-test.false in
    parts_all c.loop-part.part (loaded_of c.args.tables.now).parts _ _ (omega (arith, count, done))
    c.loop-part.invariant
