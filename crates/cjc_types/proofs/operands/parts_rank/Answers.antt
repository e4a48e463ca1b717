use Rattle.std.proofs.Common.{arith}
use Rattle.cjc_types.specs.Cells.{IsCell}
use Rattle.cjc_types.proofs.Parts.{part_fits, all_part, read_part}
use Rattle.cjc_types.proofs.operands.parts_rank.Goals as goal

pub cells_rank-total-requires-clause-few : goal.cells_rank-total-requires-clause-few
cells_rank-total-requires-clause-few c =
    let fits = part_fits c.args.parts.now c.loop-part.part-index c.items.result.now c.loop-part-test.true
    (read_part c.args.parts.now c.loop-part.part-index c.part-item.result c.items.result.now c.items.ensures
    c.part-item.is) in
    let few = c.requires.few in
    omega (arith, fits, few)

pub cells_rank-total-requires-clause-own : goal.cells_rank-total-requires-clause-own
cells_rank-total-requires-clause-own c =
    all_part IsCell c.args.parts.now c.loop-part.part-index c.items.result.now c.loop-part-test.true
    (read_part c.args.parts.now c.loop-part.part-index c.part-item.result c.items.result.now c.items.ensures
    c.part-item.is) c.requires.own

pub overflow_add-total : goal.overflow_add-total
overflow_add-total c =
    let fits = part_fits c.args.parts.now c.loop-part.part-index c.items.result.now c.loop-part-test.true
    (read_part c.args.parts.now c.loop-part.part-index c.part-item.result c.items.result.now c.items.ensures
    c.part-item.is) in
    let few = c.requires.few in
    let so_far = c.loop-part.invariant.small in
    let more = c.cells_rank-total.ensures.small in
    omega (arith, fits, few, so_far, more)
