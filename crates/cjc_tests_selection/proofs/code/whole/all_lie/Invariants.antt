use Rattle.std.proofs.Common.{◌≤◌, drop, length}
use Rattle.cjc_examples.specs.Layout.Handlers.{AllLie}
use Rattle.cjc_tests_selection.proofs.code.whole.all_lie.Given as goal

abbrev pub invariant-loop-k : goal.invariant-loop-k
invariant-loop-k l = (l.k ≤ length l.catches) × AllLie l.count (drop l.k l.catches)

abbrev pub decreases-loop-k : goal.decreases-loop-k
decreases-loop-k l = l.k
