use Rattle.std.proofs.Common.{◌≡◌, take}
use Rattle.cjc_fixpoint.specs.Lattice.{joined}
use Rattle.cjc_types.specs.Cells.{joined_cell}
use Rattle.cjc_frames.proofs.states.joined_cells.Given as goal

abbrev pub invariant-loop-i : goal.invariant-loop-i
invariant-loop-i l = l.cells ≡ take l.i (joined joined_cell l.left l.right)
