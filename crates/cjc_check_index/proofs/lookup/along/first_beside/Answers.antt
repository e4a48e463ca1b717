use Rattle.std.proofs.Common.{◌≡◌, ◌+◌, arith, drop}
use Rattle.std.specs.Prelude.{sum_by}
use Rattle.cjc_check_rules.proofs.Firsts.{sum_step}
use Rattle.cjc_check_rules.proofs.Beside.{beside_more, beside_short, beside_all}
use Rattle.cjc_check_index.proofs.lookup.along.first_beside.Goals as goal

pub loop-i-preserved : goal.loop-i-preserved
loop-i-preserved g c =
    let xs = c.args.items.now in
    let ys = c.args.others.now in
    let i = c.loop-i.i in
    let x = c.index-items-i.result in
    let y = c.index-others-i.result in
    let n : c.size-at.result ≡ g.T.Item.bytes x = c.size-at.ensures in
    let s : sum_by g.T.Item.bytes (drop i xs) ≡ g.T.Item.bytes x + sum_by g.T.Item.bytes (drop (i + 1) xs) =
    sum_step g.T.Item.bytes i x xs c.loop-i-test.true c.index-items-i.is in
    let h = c.loop-i.invariant.0 in (
      omega (arith, s, n, h),
      rw c.earlier-least.ensures (beside_more g.T.Item.bytes (g.C.Comparison.broken
          c.args.test.now) c.loop-i.at _ i x y xs ys c.loop-i.least c.first_between.result _ c.loop-i-test.true
          c.if-i-others.false c.index-items-i.is c.index-others-i.is (omega (arith, n)) c.first_between.ensures
          c.loop-i.invariant.1),
    )

pub returns-then-i-others : goal.returns-then-i-others
returns-then-i-others g c = beside_short g.T.Item.bytes (g.C.Comparison.broken c.args.test.now) c.loop-i.at c.loop-i.i
    c.args.items.now c.args.others.now c.loop-i.least _ c.if-i-others.true c.loop-i.invariant.1

pub returns : goal.returns
returns g c = beside_all g.T.Item.bytes (g.C.Comparison.broken c.args.test.now) c.loop-i.at c.loop-i.i c.args.items.now
    c.args.others.now c.loop-i.least _ c.loop-i-test.false c.loop-i.invariant.1
