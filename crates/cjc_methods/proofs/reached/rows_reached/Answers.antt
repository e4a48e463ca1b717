use Rattle.cjc_narrow.specs.Types.Tables.{rows_of}
use Rattle.cjc_methods.proofs.Reach.{reach_next, walk_next}
use Rattle.cjc_methods.proofs.reached.rows_reached.Goals as goal

pub loop-alloc-preserved : goal.loop-alloc-preserved
loop-alloc-preserved c =
    let rows = rows_of c.args.method.now c.args.types.now in
    record {
      walk = walk_next rows c.loop-alloc.row c.push.new.self c.is_some-in-loop-alloc.result c.loop-alloc.walk
          c.advance.new.self c.in_ok-push.ensures.ok c.loop-alloc.invariant.walk c.in_ok-advance.ensures.ok;
      row = reach_next rows c.loop-alloc.row c.push.new.self c.loop-alloc.walk c.frame.result.now
          c.is_some-in-loop-alloc.result c.loop-alloc.invariant.walk c.frame.ensures c.is_some-in-loop-alloc.ensures
          c.in_ok-push.ensures.ok c.loop-alloc.invariant.row;
    }
