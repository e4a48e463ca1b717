use Rattle.cjc_types.proofs.Marked.{offsets_step}
use Rattle.cjc_types.proofs.marks.mark_offsets.Goals as goal

pub loop-offset-preserved : goal.loop-offset-preserved
loop-offset-preserved c =
    offsets_step c.args.method.now.insns c.loop-offset.marked.items c.mark.new.marked.items _ c.args.offsets.now
    c.loop-offset.offset-index c.place_at.result
    c.loop-offset-test.true c.place_at.ensures c.mark.ensures c.loop-offset.invariant
