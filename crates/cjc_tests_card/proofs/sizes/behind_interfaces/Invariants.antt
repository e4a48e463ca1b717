use Rattle.std.proofs.Common.{◌≤◌, ◌+◌, drop, length, sum_by}
use Rattle.cjc_card.specs.CheckRules.Complete.{interface_size}
use Rattle.cjc_tests_card.proofs.sizes.behind_interfaces.Given as goal

abbrev pub invariant-loop-k : goal.invariant-loop-k
invariant-loop-k l = (l.k ≤ length l.interfaces) × (sum_by interface_size (drop l.k l.interfaces) + l.left ≤ l.room)

abbrev pub decreases-loop-k : goal.decreases-loop-k
decreases-loop-k l = l.k
