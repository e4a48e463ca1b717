use Rattle.std.proofs.Common.{◌≡◌, ◌+◌, ◌*◌, drop}
use Rattle.cjc_check_rules.specs.Handlers.{targets_from}
use Rattle.cjc_check_rules.specs.Spots.{earlier, first}
use Rattle.cjc_check.proofs.jumps.handlers.targets_from.Given as goal

abbrev pub invariant-loop-handler : goal.invariant-loop-handler
invariant-loop-handler l = record {
  place : l.at ≡ l.from + 8 * l.handler-index;
  so_far : earlier l.least (first (targets_from l.last l.at (drop l.handler-index l.handlers)))
      ≡ first (targets_from l.before l.from l.handlers);
}
