use Rattle.std.proofs.Common.{◌≡◌, length}
use Rattle.cjc_first.specs.Above.{with_token}
use Rattle.cjc_first.proofs.above.with_token.Given as goal

abbrev pub invariant-loop-left : goal.invariant-loop-left
invariant-loop-left l = with_token l.token l.left ≡ with_token l.token l.fn.methods

abbrev pub decreases-loop-left : goal.decreases-loop-left
decreases-loop-left l = length l.left
