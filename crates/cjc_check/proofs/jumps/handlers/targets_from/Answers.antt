use Rattle.std.proofs.Common.{arith}
use Rattle.cjc_check.proofs.JumpsLaws.Stands.{targets_all, targets_more}
use Rattle.cjc_capread.proofs.BytesGets.{same_item}
use Rattle.cjc_check.proofs.jumps.handlers.targets_from.Goals as goal

pub loop-handler-preserved : goal.loop-handler-preserved
loop-handler-preserved c =
    let hs = c.args.handlers.now in
    let i = c.loop-handler.handler-index in
    let place = c.loop-handler.invariant.place in
    record {
      place = omega (arith, place);
      so_far = rw c.earlier-least.ensures (targets_more c.loop-handler.last c.loop-handler.at i _ hs
          c.loop-handler.least c.unless.result _ c.loop-handler-test.true (same_item hs i _ c.loop-handler-test.true)
          c.unless.ensures c.loop-handler.invariant.so_far);
    }

pub returns : goal.returns
returns c = targets_all c.loop-handler.last c.loop-handler.at c.loop-handler.handler-index c.args.handlers.now
    c.loop-handler.least _ c.loop-handler-test.false c.loop-handler.invariant.so_far
