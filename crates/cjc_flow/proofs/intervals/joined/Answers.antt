use Rattle.std.proofs.Common.{◌≡◌, ◌<◌, length, arith}
use Rattle.cjc_range.specs.Rows.{join_row}
use Rattle.cjc_types.proofs.Joining.{joined_put, joined_end}
use Rattle.cjc_flow.proofs.intervals.joined.Goals as goal

pub loop-i-preserved : goal.loop-i-preserved
loop-i-preserved c =
    let sized = c.requires in
    let lt = c.loop-i-test.true in
    let inside : c.loop-i.i < length c.args.left.items = omega (arith, sized, lt) in
    joined_put join_row c.args.left.items c.args.right.now c.loop-i.i c.index-cell.result.now c.index-right-i.result
    c.join.result c.loop-i.cells.items inside sized c.loop-i.invariant c.index-cell.ensures c.index-right-i.is
    c.join.ensures.row

pub returns : goal.returns
returns c =
    let over = c.loop-i-test.false in
    let within = c.loop-i.auto.i-end in
    let end : length c.args.right.now ≡ c.loop-i.i = omega (arith, over, within) in
    joined_end join_row c.args.left.items c.args.right.now c.loop-i.i c.loop-i.cells.items c.requires end
    c.loop-i.invariant
