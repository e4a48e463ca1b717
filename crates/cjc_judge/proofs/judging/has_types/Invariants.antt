use Rattle.std.proofs.Common.{◌≡◌, drop}
use Rattle.std.specs.List.{list_any}
use Rattle.cjc_judge.specs.Working.Groups.{is_types}
use Rattle.cjc_judge.proofs.judging.has_types.Given as goal

abbrev pub invariant-loop-group : goal.invariant-loop-group
invariant-loop-group l = list_any is_types (drop l.group-index l.groups) ≡ list_any is_types l.groups
