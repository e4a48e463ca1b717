use Rattle.std.proofs.Common.{◌≡◌, ◌-◌, drop, length}
use Rattle.cjc_narrow.specs.declared.select.pairs.Wait.TheVariants.{Begins}
use Rattle.cjc_narrow.specs.Pairs.Roles.{last_wait}
use Rattle.cjc_narrow.proofs.select.pairs.last_wait.Given as goal

abbrev pub invariant-loop-k : goal.invariant-loop-k
invariant-loop-k l = last_wait l.wait (drop l.k l.steps) ≡ last_wait Begins (drop l.from l.steps)

abbrev pub decreases-loop-k : goal.decreases-loop-k
decreases-loop-k l = length l.steps - l.k
