use Rattle.std.proofs.Common.{◌≡◌, ◌++◌, length}
use Rattle.cjc_code.specs.Named.{cases}
use Rattle.cjc_code.proofs.named.cases.Given as goal

abbrev pub invariant-loop-case : goal.invariant-loop-case
invariant-loop-case l = l.cases ++ cases l.at l.left ≡ cases l.at l.pairs

abbrev pub decreases-loop-case : goal.decreases-loop-case
decreases-loop-case l = length l.left
