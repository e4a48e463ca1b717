use Rattle.std.proofs.Common.{◌≡◌, ◌+◌, ◌*◌, ◌++◌, drop}
use Rattle.cjc_check_rules.specs.Locations.{catch_places}
use Rattle.cjc_check.proofs.jumps.locations.put_catches.Given as goal

abbrev pub invariant-loop-handler : goal.invariant-loop-handler
invariant-loop-handler l = record {
  place : l.at ≡ l.from + 8 * l.handler-index;
  put : l.places ++ catch_places l.at (drop l.handler-index l.handlers) ≡ l.initial.places
      ++ catch_places l.from l.handlers;
}
