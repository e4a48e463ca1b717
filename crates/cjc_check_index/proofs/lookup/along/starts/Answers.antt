use Rattle.std.proofs.Common.{◌≡◌, ◌+◌, arith, drop}
use Rattle.std.specs.Prelude.{sum_by}
use Rattle.cjc_check_rules.proofs.Firsts.{sum_step}
use Rattle.cjc_check_rules.proofs.Starts.{starts_more, starts_all}
use Rattle.cjc_check_index.proofs.lookup.along.starts.Goals as goal

pub loop-item-preserved : goal.loop-item-preserved
loop-item-preserved g c =
    let xs = c.args.items.now in
    let i = c.loop-item.item-index in
    let x = c.item-item.result in
    let n : c.size-at.result ≡ g.T.Item.bytes x = c.size-at.ensures in
    let s : sum_by g.T.Item.bytes (drop i xs) ≡ g.T.Item.bytes x + sum_by g.T.Item.bytes (drop (i + 1) xs) =
    sum_step g.T.Item.bytes i x xs c.loop-item-test.true c.item-item.is in
    let h = c.loop-item.invariant.0 in (
      omega (arith, s, n, h),
      rw (c.in_ok-push.ensures.ok, c.from.ensures) (starts_more g.T.Item.bytes c.loop-item.at _ i
          x xs c.loop-item.starts _ c.loop-item-test.true c.item-item.is (omega (arith, n)) c.loop-item.invariant.1),
    )

pub returns : goal.returns
returns g c = starts_all g.T.Item.bytes c.loop-item.at c.loop-item.item-index c.args.items.now c.loop-item.starts _
    c.loop-item-test.false c.loop-item.invariant.1
