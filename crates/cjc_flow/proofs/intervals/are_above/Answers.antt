use Rattle.std.proofs.Common.{◌≡◌, length, refl, arith}
use Rattle.cjc_range.specs.Rows.{join_row}
use Rattle.cjc_types.proofs.Joining.{above_step, above_end}
use Rattle.cjc_flow.proofs.intervals.are_above.Goals as goal

pub loop-i-preserved : goal.loop-i-preserved
loop-i-preserved c =
    above_step join_row c.args.left.now c.args.right.now c.loop-i.i c.index-left-i.result c.index-right-i.result
    c.loop-i-test.true c.requires c.index-left-i.is c.index-right-i.is (c.if-not-is_wider.ensures refl)
    c.loop-i.invariant

pub returns : goal.returns
returns c = λ _.
    let over = c.loop-i-test.false in
    let within = c.loop-i.auto.i-end in
    let end : length c.args.left.now ≡ c.loop-i.i = omega (arith, over, within) in
    above_end join_row c.args.left.now c.args.right.now c.loop-i.i c.requires end c.loop-i.invariant
