use Rattle.std.proofs.Common.{◌≡◌, drop}
use Rattle.std.specs.Prelude.{sum_by}
use Rattle.cjc_subset.specs.Limits.{handlers_of_class}
use Rattle.cjc_subset.specs.Working.Sums.{left_of}
use Rattle.cjc_subset.proofs.limits.all_handlers_left.Given as goal

abbrev pub invariant-loop-class : goal.invariant-loop-class
invariant-loop-class l = left_of l.left (sum_by handlers_of_class (drop l.class-index l.classes))
    ≡ left_of l.allowance (sum_by handlers_of_class l.classes)
