use Rattle.std.proofs.Common.{◌≡◌, ◌++◌, take}
use Rattle.cjc_types.proofs.operands.put_copies.Given as goal

abbrev pub invariant-loop-cell : goal.invariant-loop-cell
invariant-loop-cell l = l.all.items ≡ l.initial.all.items ++ take l.cell-index l.cells
