use Rattle.std.proofs.Common.{◌≡◌, take}
use Rattle.cjc_frames.proofs.states.copied_cells.Given as goal

abbrev pub invariant-loop-cell : goal.invariant-loop-cell
invariant-loop-cell l = l.copied ≡ take l.cell-index l.cells
