use Rattle.std.proofs.Common.{◌≤◌, ◌+◌, drop, length, sum_by}
use Rattle.cjc_card.specs.CheckRules.Complete.{class_size}
use Rattle.cjc_tests_card.proofs.sizes.behind_classes.Given as goal

abbrev pub invariant-loop-k : goal.invariant-loop-k
invariant-loop-k l = (l.k ≤ length l.classes) × (sum_by class_size (drop l.k l.classes) + l.left ≤ l.room)

abbrev pub decreases-loop-k : goal.decreases-loop-k
decreases-loop-k l = l.k
