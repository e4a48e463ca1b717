use Rattle.cjc_check.specs.Jumps.Offsets.{index_spot, operand_at}
use Rattle.cjc_check.proofs.JumpsLaws.Flat.{flat_all, flat_more}
use Rattle.cjc_capread.proofs.BytesGets.{same_item}
use Rattle.cjc_check.proofs.jumps.indices.index_spot.Goals as goal

pub loop-index-preserved : goal.loop-index-preserved
loop-index-preserved c =
    let xs = c.args.indices.now in
    let i = c.loop-index.index-index in
    rw c.earlier-least.ensures (flat_more operand_at (index_spot c.args.entries.now) i _ xs c.loop-index.least
    c.unless.result _ c.loop-index-test.true (same_item xs i _ c.loop-index-test.true)
    (rw c.is_entry_for-is_right.ensures at c.unless.ensures) c.loop-index.invariant)

pub returns : goal.returns
returns c = flat_all operand_at (index_spot c.args.entries.now) c.loop-index.index-index c.args.indices.now
    c.loop-index.least _ c.loop-index-test.false c.loop-index.invariant
