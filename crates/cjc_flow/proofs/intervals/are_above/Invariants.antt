use Rattle.std.proofs.Common.{◌≡◌, take}
use Rattle.cjc_fixpoint.specs.Lattice.{joined}
use Rattle.cjc_range.specs.Rows.{join_row}
use Rattle.cjc_flow.proofs.intervals.are_above.Given as goal

abbrev pub invariant-loop-i : goal.invariant-loop-i
invariant-loop-i l = take l.i (joined join_row l.left l.right) ≡ take l.i l.left
