use Rattle.std.proofs.Common.{◌≡◌, drop}
use Rattle.std.specs.Prelude.{sum_by}
use Rattle.cjc_subset.specs.Limits.{cells}
use Rattle.cjc_subset.specs.Working.Sums.{left_of}
use Rattle.cjc_subset.proofs.limits.cells_left.Given as goal

abbrev pub invariant-loop-field : goal.invariant-loop-field
invariant-loop-field l = left_of l.left (sum_by cells (drop l.field-index l.fields))
    ≡ left_of l.allowance (sum_by cells l.fields)
