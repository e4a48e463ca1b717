use Rattle.std.proofs.Common.{◌≤◌, ◌+◌, drop, length}
use Rattle.cjc_examples.specs.Layout.Sizes.{widest_size}
use Rattle.cjc_tests_selection.proofs.code.whole.has_room.Given as goal

abbrev pub invariant-loop-k : goal.invariant-loop-k
invariant-loop-k l = (l.k ≤ length l.insns) × (widest_size (drop l.k l.insns) + l.left ≤ l.room)

abbrev pub decreases-loop-k : goal.decreases-loop-k
decreases-loop-k l = l.k
