use Rattle.std.proofs.Common.{◌≡◌, drop}
use Rattle.std.specs.Prelude.{sum_by}
use Rattle.cjc_subset.specs.Limits.{handlers}
use Rattle.cjc_subset.specs.Working.Sums.{left_of}
use Rattle.cjc_subset.proofs.limits.handlers_left.Given as goal

abbrev pub invariant-loop-method : goal.invariant-loop-method
invariant-loop-method l = left_of l.left (sum_by handlers (drop l.method-index l.methods))
    ≡ left_of l.allowance (sum_by handlers l.methods)
