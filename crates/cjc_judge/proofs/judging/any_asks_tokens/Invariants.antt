use Rattle.std.proofs.Common.{◌≡◌, drop}
use Rattle.std.specs.List.{list_any}
use Rattle.cjc_judge.specs.Tokens.{asks_tokens}
use Rattle.cjc_judge.proofs.judging.any_asks_tokens.Given as goal

abbrev pub invariant-loop-group : goal.invariant-loop-group
invariant-loop-group l = list_any asks_tokens (drop l.group-index l.groups) ≡ list_any asks_tokens l.groups
