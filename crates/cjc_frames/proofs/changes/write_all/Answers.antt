use Rattle.std.proofs.Common.{◌∙◌}
use Rattle.cjc_frames.specs.Known.{stack_in}
use Rattle.cjc_frames.specs.Working.ActLaws.{writes_next}
use Rattle.cjc_frames.proofs.changes.write_all.Goals as goal

pub loop-one-preserved : goal.loop-one-preserved
loop-one-preserved c = writes_next c.args.act.now c.args.before.now (stack_in c.args.stack.now) c.args.writes.now
    c.loop-one.one-index c.one-item.result c.loop-one.locals.items c.write.new.locals.items c.loop-one-test.true
    c.one-item.is c.in_ok-write.ensures ∙ c.loop-one.invariant
