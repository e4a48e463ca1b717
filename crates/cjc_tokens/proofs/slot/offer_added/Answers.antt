use Rattle.cjc_tokens.proofs.Offers.{ids-more}
use Rattle.cjc_bytes.proofs.Gets.{take_past}
use Rattle.cjc_tokens.proofs.slot.offer_added.Goals as goal

pub loop-id-preserved : goal.loop-id-preserved
loop-id-preserved c =
    rw (ids-more c.args.added.now c.loop-id.id-index c.id-item.result c.items-name.result.now c.items-desc.result.now
    c.loop-id-test.true c.id-item.is c.items-name.ensures c.items-desc.ensures)
    (c.in_ok-put_new.ensures _ _ _ c.loop-id.invariant c.got-found.ensures)

pub returns : goal.returns
returns c = rw (take_past c.args.added.now c.loop-id.id-index c.loop-id-test.false) at c.loop-id.invariant
