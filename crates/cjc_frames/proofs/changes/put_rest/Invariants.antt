use Rattle.std.proofs.Common.{◌≡◌, ◌++◌, take, drop}
use Rattle.cjc_frames.proofs.changes.put_rest.Given as goal

abbrev pub invariant-loop-cell : goal.invariant-loop-cell
invariant-loop-cell l = l.cells ≡ l.initial.cells ++ take l.cell-index (drop l.taken l.stack)
