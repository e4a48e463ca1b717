use Rattle.std.proofs.Common.{◌≡◌, ◌++◌, drop}
use Rattle.cjc_pool.specs.CheckRules.Locations.{catch_places}
use Rattle.cjc_methods.proofs.component.places.put_catches.Given as goal

abbrev pub invariant-loop-handler : goal.invariant-loop-handler
invariant-loop-handler l = l.out ++ catch_places l.at (drop l.handler-index l.handlers) ≡ l.initial.out
    ++ catch_places l.from l.handlers
