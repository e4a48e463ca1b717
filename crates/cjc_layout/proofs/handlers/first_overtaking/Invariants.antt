use Rattle.std.proofs.Common.{◌≡◌, ◌≤◌, drop, take, length}
use Rattle.cjc_layout.specs.Refusals.{least, overtaking}
use Rattle.cjc_layout.proofs.handlers.first_overtaking.Given as goal

abbrev pub invariant-loop-k : goal.invariant-loop-k
invariant-loop-k l = (l.k ≤ length l.catches) × (l.first ≡ least (overtaking (take l.k l.catches) (drop l.k l.catches)))

abbrev pub decreases-loop-k : goal.decreases-loop-k
decreases-loop-k l = l.k
