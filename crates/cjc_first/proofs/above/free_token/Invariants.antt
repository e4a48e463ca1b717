use Rattle.std.proofs.Common.{◌≡◌, ◌≤◌, length}
use Rattle.std.specs.Prelude.{max}
use Rattle.cjc_first.specs.Above.{free_token}
use Rattle.cjc_first.proofs.above.free_token.Given as goal

abbrev pub invariant-loop-left : goal.invariant-loop-left
invariant-loop-left l = record { counted : max l.free (free_token l.left) ≡ free_token l.fn.methods; low : l.free ≤ 256 }

abbrev pub decreases-loop-left : goal.decreases-loop-left
decreases-loop-left l = length l.left
