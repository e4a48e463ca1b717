use Rattle.cjc_card.proofs.GroupLaws.Near.{near_all, near_more}
use Rattle.cjc_card.proofs.group.group.check_all_handlers.Goals as goal

pub loop-part-preserved : goal.loop-part-preserved
loop-part-preserved c =
    near_more c.loop-part.part-index c.part-item.result c.part-item.result c.args.parts.now _ c.loop-part-test.true
    c.part-item.is c.in_ok-check_handlers.ensures c.loop-part.invariant

pub returns : goal.returns
returns c = near_all c.loop-part.part-index c.args.parts.now _ c.loop-part-test.false c.loop-part.invariant
