use Rattle.std.proofs.Common.{◌≡◌, ◌<◌, length, arith}
use Rattle.cjc_fixpoint.specs.Lattice.{joined}
use Rattle.cjc_types.specs.Cells.{IsCell, joined_cell}
use Rattle.cjc_types.proofs.Joining.{joined_put, joined_end}
use Rattle.cjc_types.proofs.Parts.{alike_at, alike_count, all_part, still}
use Rattle.cjc_types.proofs.operands.joined_parts.Goals as goal

pub joined_part-requires-clause-sized : goal.joined_part-requires-clause-sized
joined_part-requires-clause-sized c =
    let same = alike_count c.args.left.items c.args.right.now c.requires.sized in
    let lt = c.loop-i-test.true in
    let inside : c.loop-i.i < length c.args.left.items = omega (arith, same, lt) in
    alike_at c.args.left.items c.args.right.now c.loop-i.i c.index.result.now c.index-right-i.result c.requires.sized
    inside
    (still (joined joined_cell) c.args.left.items c.args.right.now c.loop-i.i c.index.result.now c.loop-i.parts.items
    inside same c.loop-i.invariant c.index.ensures) c.index-right-i.is

pub joined_part-requires-clause-left : goal.joined_part-requires-clause-left
joined_part-requires-clause-left c =
    let same = alike_count c.args.left.items c.args.right.now c.requires.sized in
    let lt = c.loop-i-test.true in
    let inside : c.loop-i.i < length c.args.left.items = omega (arith, same, lt) in
    all_part IsCell c.args.left.items c.loop-i.i c.index.result.now inside
    (still (joined joined_cell) c.args.left.items c.args.right.now c.loop-i.i c.index.result.now c.loop-i.parts.items
    inside same c.loop-i.invariant c.index.ensures) c.requires.left

pub joined_part-requires-clause-right : goal.joined_part-requires-clause-right
joined_part-requires-clause-right c =
    all_part IsCell c.args.right.now c.loop-i.i c.index-right-i.result c.loop-i-test.true c.index-right-i.is
    c.requires.right

pub loop-i-preserved : goal.loop-i-preserved
loop-i-preserved c =
    let same = alike_count c.args.left.items c.args.right.now c.requires.sized in
    let lt = c.loop-i-test.true in
    let inside : c.loop-i.i < length c.args.left.items = omega (arith, same, lt) in
    joined_put (joined joined_cell) c.args.left.items c.args.right.now c.loop-i.i c.index.result.now
    c.index-right-i.result c.in_ok-part.part c.loop-i.parts.items inside same c.loop-i.invariant c.index.ensures
    c.index-right-i.is c.in_ok-part.ensures

pub returns : goal.returns
returns c =
    let over = c.loop-i-test.false in
    let within = c.loop-i.auto.i-end in
    let end : length c.args.right.now ≡ c.loop-i.i = omega (arith, over, within) in
    joined_end (joined joined_cell) c.args.left.items c.args.right.now c.loop-i.i c.loop-i.parts.items
    (alike_count c.args.left.items c.args.right.now c.requires.sized) end c.loop-i.invariant
