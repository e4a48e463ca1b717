use Rattle.std.proofs.Common.{◌≡◌, ◌++◌, drop}
use Rattle.cjc_pool.specs.CheckRules.Locations.{distances}
use Rattle.cjc_methods.proofs.component.distances.distances.Given as goal

abbrev pub invariant-loop-at : goal.invariant-loop-at
invariant-loop-at l = l.bytes ++ distances l.before (drop l.at-index l.places) ≡ distances 0 l.places
