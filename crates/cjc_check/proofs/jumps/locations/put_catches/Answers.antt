use Rattle.std.proofs.Common.{arith}
use Rattle.cjc_check.proofs.JumpsLaws.Listed.{catch_all, catch_more}
use Rattle.cjc_capread.proofs.BytesGets.{same_item}
use Rattle.cjc_check.proofs.jumps.locations.put_catches.Goals as goal

pub loop-handler-preserved : goal.loop-handler-preserved
loop-handler-preserved c =
    let hs = c.args.handlers.now in
    let i = c.loop-handler.handler-index in
    let place = c.loop-handler.invariant.place in
    record {
      place = omega (arith, place);
      put = catch_more c.loop-handler.at i _ hs c.loop-handler.places _ _ c.loop-handler-test.true
          (same_item hs i _ c.loop-handler-test.true) c.in_ok-put_catch.ensures c.loop-handler.invariant.put;
    }

pub returns : goal.returns
returns c = catch_all c.loop-handler.at c.loop-handler.handler-index c.args.handlers.now c.loop-handler.places _
    c.loop-handler-test.false c.loop-handler.invariant.put
