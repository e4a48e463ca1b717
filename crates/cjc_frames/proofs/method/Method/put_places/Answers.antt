use Rattle.cjc_types.proofs.Filtered.{put_more}
use Rattle.cjc_frames.specs.Flow.{place_at}
use Rattle.cjc_frames.proofs.method.Method.put_places.Goals as goal

pub loop-offset-preserved : goal.loop-offset-preserved
loop-offset-preserved c =
    put_more (place_at c.args.self.now.steps) c.args.offsets.now c.loop-offset.offset-index 0 c.place_at.result
    c.args.places.now c.loop-offset.places c.put_some.new.row
    c.loop-offset-test.true c.place_at.ensures c.loop-offset.invariant c.in_ok-put_some.ensures
