use Rattle.std.proofs.Common.{◌≡◌, ◌++◌, take, drop}
use Rattle.cjc_fixpoint.specs.Lattice.{joined}
use Rattle.cjc_types.specs.Cells.{joined_cell}
use Rattle.cjc_types.proofs.state.joined_cells.Given as goal

abbrev pub invariant-loop-i : goal.invariant-loop-i
invariant-loop-i l = l.cells.items ≡ take l.i (joined joined_cell l.initial.cells.items l.right)
    ++ drop l.i l.initial.cells.items
