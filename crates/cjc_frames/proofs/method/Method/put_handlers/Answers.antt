use Rattle.cjc_types.proofs.Filtered.{put_read}
use Rattle.cjc_frames.specs.Flow.{handler_edge}
use Rattle.cjc_frames.proofs.method.Method.put_handlers.Goals as goal

pub loop-catch-preserved : goal.loop-catch-preserved
loop-catch-preserved c =
    put_read (handler_edge c.args.self.now.steps c.args.offset c.args.before.now) c.self.inside.catches.now
    c.loop-catch.catch-index c.catch-item.result c.in_ok-handler_edge.field-0 c.args.edges.now c.loop-catch.edges
    c.put_some.new.row
    c.loop-catch-test.true c.catch-item.is c.in_ok-handler_edge.ensures c.loop-catch.invariant c.in_ok-put_some.ensures
