use Rattle.std.proofs.Common.{◌∙◌, ap, ℕ, ◌++◌, drop, ◌+◌}
use Rattle.cjc_pool.specs.CheckRules.Locations.{catch_places}
use Rattle.cjc_check.proofs.JumpsLaws.Listed.{catch_all, catch_more}
use Rattle.cjc_bytes.proofs.Gets.{same_item}
use Rattle.cjc_methods.proofs.component.places.put_catches.Goals as goal

pub loop-handler-preserved : goal.loop-handler-preserved
loop-handler-preserved c =
    let hs = c.args.handlers.now in
    let i = c.loop-handler.handler-index in
    ap (λ (at : ℕ). c.put_catch.new.out ++ catch_places at (drop (i + 1) hs)) c.in_ok-at.ensures
    ∙ catch_more c.loop-handler.at i _ hs c.loop-handler.out _ _ c.loop-handler-test.true
    (same_item hs i _ c.loop-handler-test.true) c.in_ok-put_catch.ensures c.loop-handler.invariant

pub returns : goal.returns
returns c = catch_all c.loop-handler.at c.loop-handler.handler-index c.args.handlers.now c.loop-handler.out _
    c.loop-handler-test.false c.loop-handler.invariant
