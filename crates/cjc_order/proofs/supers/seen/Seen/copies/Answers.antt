use Rattle.cjc_order.proofs.SupersLaws.Sets.{copied_next}
use Rattle.cjc_order.proofs.supers.seen.Seen.copies.Goals as goal

pub loop-place-preserved : goal.loop-place-preserved
loop-place-preserved c = copied_next _ _ _ _ _ _ c.at.ensures c.in_ok-copy_of.ensures c.loop-place.invariant
    c.in_ok-push.ensures.ok
