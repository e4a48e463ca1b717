use Rattle.std.proofs.Common.{◌≡◌, ◌++◌}
use Rattle.cjc_pool.specs.CheckRules.Locations.{distance}
use Rattle.cjc_methods.proofs.component.distances.put_distance.Given as goal

abbrev pub invariant-loop-left : goal.invariant-loop-left
invariant-loop-left l = l.bytes ++ distance l.left ≡ l.initial.bytes ++ distance l.by

abbrev pub decreases-loop-left : goal.decreases-loop-left
decreases-loop-left l = l.left
