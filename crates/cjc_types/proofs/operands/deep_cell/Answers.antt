use Rattle.std.proofs.Common.{◌≡◌, ◌<◌, ◌-◌, ◌+◌, ℕ, length, arith}
use Rattle.cjc_types.specs.declared.cell.Cell.TheVariants.{Unusable}
use Rattle.cjc_types.proofs.Parts.{deep_read, deep_within, read_part}
use Rattle.cjc_types.proofs.operands.deep_cell.Goals as goal

pub returns-then-left-cells : goal.returns-then-left-cells
returns-then-left-cells c =
    let i : ℕ = c.loop-count.count - 1 in
    let some = c.loop-count-test.true in
    let within = c.loop-count.invariant.within in
    let next : c.loop-count.count ≡ i + 1 = omega (arith, some) in
    let lt : i < length c.args.parts.now = omega (arith, some, within) in
    let is = read_part c.args.parts.now i c.index-parts-count.result c.items-cells.result.now c.items-cells.ensures
    c.index-parts-count.is in (
      deep_within c.args.parts.now i c.loop-count.count c.args.k c.loop-count.left c.items-cells.result.now lt next is
          c.if-left-cells.true c.loop-count.invariant.same,
      deep_read c.args.parts.now i c.loop-count.count c.args.k c.loop-count.left c.items-cells.result.now
          c.index-cells-cells.result Unusable lt next is c.if-left-cells.true c.loop-count.invariant.same
          c.loop-count.invariant.read c.index-cells-cells.is,
    )
