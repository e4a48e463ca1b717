use Rattle.std.proofs.Common.{◌≡◌, ◌+◌, arith, drop}
use Rattle.std.specs.Prelude.{sum_by}
use Rattle.cjc_check_rules.proofs.Firsts.{along_more, along_all, sum_step}
use Rattle.cjc_check_index.proofs.lookup.along.first_along.Goals as goal

pub loop-item-preserved : goal.loop-item-preserved
loop-item-preserved g c =
    let size = g.T.Item.bytes in
    let xs = c.args.items.now in
    let i = c.loop-item.item-index in
    let x = c.item-item.result in
    let n : c.size-at.result ≡ g.T.Item.bytes x = c.size-at.ensures in
    let s : sum_by g.T.Item.bytes (drop i xs) ≡ g.T.Item.bytes x + sum_by g.T.Item.bytes (drop (i + 1) xs) =
    sum_step g.T.Item.bytes i x xs c.loop-item-test.true c.item-item.is in
    let h = c.loop-item.invariant.0 in (
      omega (arith, s, n, h),
      rw c.earlier-least.ensures (along_more g.T.Item.bytes (g.C.Test.broken c.args.test.now)
          c.loop-item.at _ i x xs c.loop-item.least c.first_in.result _ c.loop-item-test.true c.item-item.is
          (omega (arith, n)) c.first_in.ensures c.loop-item.invariant.1),
    )

pub returns : goal.returns
returns g c = along_all g.T.Item.bytes (g.C.Test.broken c.args.test.now) c.loop-item.at c.loop-item.item-index
    c.args.items.now c.loop-item.least _ c.loop-item-test.false c.loop-item.invariant.1
