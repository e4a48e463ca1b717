use Rattle.std.proofs.Common.{◌≡◌, ◌<◌, length, get_or, sym, subst, arith}
use Rattle.cjc_types.specs.Cells.{joined_cell}
use Rattle.cjc_types.specs.declared.cell.Cell.{Cell}
use Rattle.cjc_types.proofs.Joining.{joined_set, joined_end}
use Rattle.cjc_types.proofs.state.joined_cells.Goals as goal

pub loop-i-preserved : goal.loop-i-preserved
loop-i-preserved c =
    let sized = c.requires.sized in
    let lt = c.loop-i-test.true in
    let inside : c.loop-i.i < length c.args.left.items = omega (arith, sized, lt) in
    let read : c.replace-cell.result ≡ get_or c.loop-i.cells.items c.loop-i.i c.replace-cell.result =
    subst (λ (v : Cell). v ≡ get_or c.loop-i.cells.items c.loop-i.i v) (sym c.replace-cell.ensures.value)
    c.index_mut.ensures.value in
    joined_set joined_cell c.args.left.items c.args.right.now c.loop-i.i c.replace-cell.result c.index-right-i.result
    c.in_ok-cells.field-0 c.replace-cell.new.dest c.loop-i.cells.items inside sized c.loop-i.invariant read
    c.index-right-i.is c.in_ok-cells.ensures

pub returns : goal.returns
returns c =
    let over = c.loop-i-test.false in
    let within = c.loop-i.auto.i-end in
    let end : length c.args.right.now ≡ c.loop-i.i = omega (arith, over, within) in
    joined_end joined_cell c.args.left.items c.args.right.now c.loop-i.i c.loop-i.cells.items c.requires.sized end
    c.loop-i.invariant
