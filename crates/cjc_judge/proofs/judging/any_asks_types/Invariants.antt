use Rattle.std.proofs.Common.{◌≡◌, drop}
use Rattle.std.specs.List.{list_any}
use Rattle.cjc_judge.specs.Types.{asks_types}
use Rattle.cjc_judge.proofs.judging.any_asks_types.Given as goal

abbrev pub invariant-loop-group : goal.invariant-loop-group
invariant-loop-group l = list_any asks_types (drop l.group-index l.groups) ≡ list_any asks_types l.groups
