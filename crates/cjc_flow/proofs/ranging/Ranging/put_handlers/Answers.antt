use Rattle.cjc_types.proofs.Filtered.{put_read}
use Rattle.cjc_flow.specs.Working.Kept.{kept_handler}
use Rattle.cjc_flow.proofs.ranging.Ranging.put_handlers.Goals as goal

pub loop-catch-preserved : goal.loop-catch-preserved
loop-catch-preserved c =
    put_read (kept_handler c.args.self.now c.args.offset c.args.before.now) c.catches-catch-items.result.now
    c.loop-catch.catch-index c.catch-item.result c.in_ok-handler_edge.field-0 c.args.edges.now c.loop-catch.edges
    c.put_some.new.row
    c.loop-catch-test.true c.catch-item.is c.in_ok-handler_edge.ensures c.loop-catch.invariant c.in_ok-put_some.ensures
