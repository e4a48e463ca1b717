use Rattle.std.proofs.Common.{◌≡◌, ◌≤◌, ◌*◌, ◌^◌, take, sum_by}
use Rattle.cjc_types.specs.Cells.{cell_rank}
use Rattle.cjc_frames.proofs.states.cells_rank.Given as goal

abbrev pub invariant-loop-cell : goal.invariant-loop-cell
invariant-loop-cell l = record {
  sum : l.total ≡ sum_by cell_rank (take l.cell-index l.cells);
  small : l.total ≤ l.cell-index * 2 ^ 32;
}
