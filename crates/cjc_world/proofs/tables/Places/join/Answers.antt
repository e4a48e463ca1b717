use Rattle.std.proofs.Common.{refl}
use Rattle.cjc_world.proofs.Joined.{join-step, join-end}
use Rattle.cjc_world.proofs.tables.Places.join.Goals as goal

pub loop-place-preserved : goal.loop-place-preserved
loop-place-preserved c = join-step c.args.self.now c.loop-place.self c.put.new.self c.args.more.now
    c.loop-place.place-index 0 _ c.loop-place-test.true refl c.in_ok-put.ensures c.loop-place.invariant

pub returns : goal.returns
returns c = join-end c.args.self.now c.loop-place.self c.args.more.now c.loop-place.place-index c.loop-place-test.false
    c.loop-place.invariant
