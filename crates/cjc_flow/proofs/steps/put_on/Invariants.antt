use Rattle.std.proofs.Common.{◌≡◌, ◌++◌, vec_len}
use Rattle.cjc_flow.proofs.steps.put_on.Given as goal

abbrev pub invariant-loop-cell : goal.invariant-loop-cell
invariant-loop-cell l = l.left.items ++ l.stack ≡ l.initial.left.items ++ l.initial.stack

abbrev pub decreases-loop-cell : goal.decreases-loop-cell
decreases-loop-cell l = vec_len l.left
