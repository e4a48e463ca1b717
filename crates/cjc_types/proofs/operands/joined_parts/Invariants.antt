use Rattle.std.proofs.Common.{◌≡◌, ◌++◌, take, drop}
use Rattle.cjc_fixpoint.specs.Lattice.{joined}
use Rattle.cjc_types.specs.Cells.{joined_cell}
use Rattle.cjc_types.proofs.operands.joined_parts.Given as goal

abbrev pub invariant-loop-i : goal.invariant-loop-i
invariant-loop-i l = l.parts.items ≡ take l.i (joined (joined joined_cell) l.initial.parts.items l.right)
    ++ drop l.i l.initial.parts.items
