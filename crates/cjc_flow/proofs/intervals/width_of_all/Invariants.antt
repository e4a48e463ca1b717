use Rattle.std.proofs.Common.{◌≡◌, ◌≤◌, ◌*◌, ◌^◌, take, sum_by}
use Rattle.cjc_range.specs.Span.{width}
use Rattle.cjc_flow.proofs.intervals.width_of_all.Given as goal

abbrev pub invariant-loop-cell : goal.invariant-loop-cell
invariant-loop-cell l = record {
  sum : l.total ≡ sum_by width (take l.cell-index l.cells);
  small : l.total ≤ l.cell-index * 2 ^ 32;
}
