use Rattle.std.proofs.Common.{◌≡◌, ◌+◌, arith, drop}
use Rattle.std.specs.Prelude.{sum_by}
use Rattle.cjc_check_rules.proofs.Firsts.{sum_step}
use Rattle.cjc_check_rules.proofs.Numbered.{numbered_more, numbered_all}
use Rattle.cjc_check_index.proofs.lookup.along.first_numbered.Goals as goal

pub loop-i-preserved : goal.loop-i-preserved
loop-i-preserved g c =
    let xs = c.args.items.now in
    let i = c.loop-i.i in
    let x = c.index-items-i.result in
    let n : c.size-at.result ≡ g.T.Item.bytes x = c.size-at.ensures in
    let s : sum_by g.T.Item.bytes (drop i xs) ≡ g.T.Item.bytes x + sum_by g.T.Item.bytes (drop (i + 1) xs) =
    sum_step g.T.Item.bytes i x xs c.loop-i-test.true c.index-items-i.is in
    let h = c.loop-i.invariant.0 in (
      omega (arith, s, n, h),
      rw c.earlier-least.ensures (numbered_more g.T.Item.bytes
          (g.C.Numbered.broken c.args.test.now) c.loop-i.at _ i x xs c.loop-i.least c.first_at_number.result _
          c.loop-i-test.true c.index-items-i.is (omega (arith, n)) c.first_at_number.ensures c.loop-i.invariant.1),
    )

pub returns : goal.returns
returns g c = numbered_all g.T.Item.bytes (g.C.Numbered.broken c.args.test.now) c.loop-i.at c.loop-i.i c.args.items.now
    c.loop-i.least _ c.loop-i-test.false c.loop-i.invariant.1
