use Rattle.std.proofs.Common.{◌≡◌, ◌++◌, take, drop}
use Rattle.cjc_fixpoint.specs.Lattice.{joined}
use Rattle.cjc_range.specs.Rows.{join_row}
use Rattle.cjc_flow.proofs.intervals.joined.Given as goal

abbrev pub invariant-loop-i : goal.invariant-loop-i
invariant-loop-i l = l.cells.items ≡ take l.i (joined join_row l.initial.cells.items l.right)
    ++ drop l.i l.initial.cells.items
