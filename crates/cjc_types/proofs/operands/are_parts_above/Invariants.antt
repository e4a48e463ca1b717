use Rattle.std.proofs.Common.{◌≡◌, take}
use Rattle.cjc_fixpoint.specs.Lattice.{joined}
use Rattle.cjc_types.specs.Cells.{joined_cell}
use Rattle.cjc_types.proofs.operands.are_parts_above.Given as goal

abbrev pub invariant-loop-i : goal.invariant-loop-i
invariant-loop-i l = take l.i (joined (joined joined_cell) l.left l.right) ≡ take l.i l.left
