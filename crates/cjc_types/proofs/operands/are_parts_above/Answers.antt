use Rattle.std.proofs.Common.{◌≡◌, ◌<◌, ℕ, length, refl, subst, arith}
use Rattle.cjc_fixpoint.specs.Lattice.{joined}
use Rattle.cjc_types.specs.Cells.{IsCell, joined_cell}
use Rattle.cjc_types.proofs.Joining.{above_step, above_end}
use Rattle.cjc_types.proofs.Parts.{alike_at, alike_count, all_part, read_part}
use Rattle.cjc_types.proofs.operands.are_parts_above.Goals as goal

pub are_above-requires-clause-sized : goal.are_above-requires-clause-sized
are_above-requires-clause-sized c =
    alike_at c.args.left.now c.args.right.now c.loop-i.i c.items.result.now c.items-in-loop-i.result.now
    c.requires.sized c.loop-i-test.true
    (read_part c.args.left.now c.loop-i.i c.index-left-i.result c.items.result.now c.items.ensures c.index-left-i.is)
    (read_part c.args.right.now c.loop-i.i c.index-right-i.result c.items-in-loop-i.result.now c.items-in-loop-i.ensures
    c.index-right-i.is)

pub are_above-requires-clause-left : goal.are_above-requires-clause-left
are_above-requires-clause-left c =
    all_part IsCell c.args.left.now c.loop-i.i c.items.result.now c.loop-i-test.true
    (read_part c.args.left.now c.loop-i.i c.index-left-i.result c.items.result.now c.items.ensures c.index-left-i.is)
    c.requires.left

pub are_above-requires-clause-right : goal.are_above-requires-clause-right
are_above-requires-clause-right c =
    all_part IsCell c.args.right.now c.loop-i.i c.items-in-loop-i.result.now
    (subst (λ (n : ℕ). c.loop-i.i < n) (alike_count c.args.left.now c.args.right.now c.requires.sized)
    c.loop-i-test.true)
    (read_part c.args.right.now c.loop-i.i c.index-right-i.result c.items-in-loop-i.result.now c.items-in-loop-i.ensures
    c.index-right-i.is) c.requires.right

pub loop-i-preserved : goal.loop-i-preserved
loop-i-preserved c =
    above_step (joined joined_cell) c.args.left.now c.args.right.now c.loop-i.i c.items.result.now
    c.items-in-loop-i.result.now c.loop-i-test.true
    (alike_count c.args.left.now c.args.right.now c.requires.sized)
    (read_part c.args.left.now c.loop-i.i c.index-left-i.result c.items.result.now c.items.ensures c.index-left-i.is)
    (read_part c.args.right.now c.loop-i.i c.index-right-i.result c.items-in-loop-i.result.now c.items-in-loop-i.ensures
    c.index-right-i.is)
    (c.if-not-are_above.ensures refl) c.loop-i.invariant

pub returns : goal.returns
returns c = λ _.
    let over = c.loop-i-test.false in
    let within = c.loop-i.auto.i-end in
    let end : length c.args.left.now ≡ c.loop-i.i = omega (arith, over, within) in
    above_end (joined joined_cell) c.args.left.now c.args.right.now c.loop-i.i (alike_count c.args.left.now
    c.args.right.now c.requires.sized) end c.loop-i.invariant
