use Rattle.std.proofs.Common.{◌∙◌, ap, arith}
use Rattle.std.proofs.lemmas.List.{take_all}
use Rattle.cjc_fixpoint.specs.Lattice.{joined}
use Rattle.cjc_fixpoint.proofs.Lattices.{joined_more, length-joined}
use Rattle.cjc_types.specs.Cells.{joined_cell}
use Rattle.cjc_frames.proofs.states.joined_cells.Goals as goal

pub loop-i-preserved : goal.loop-i-preserved
loop-i-preserved c =
    c.in_ok-push.ensures.ok ∙ joined_more joined_cell c.args.left.now c.args.right.now c.loop-i.i c.index-left-i.result
    c.index-right-i.result c.in_ok-joined.field-0 c.loop-i.cells c.loop-i-test.true c.requires.sized c.index-left-i.is
    c.index-right-i.is (c.in_ok-joined.ensures ∙ ap (joined_cell c.index-left-i.result) c.in_ok-other.ensures)
    c.loop-i.invariant

pub returns : goal.returns
returns c =
    let over = c.loop-i-test.false in
    let all = length-joined joined_cell c.args.left.now c.args.right.now c.requires.sized in
    c.loop-i.invariant ∙ take_all c.loop-i.i (joined joined_cell c.args.left.now c.args.right.now)
    (omega (arith, all, over))
