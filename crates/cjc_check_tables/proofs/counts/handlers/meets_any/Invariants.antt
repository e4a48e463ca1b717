use Rattle.std.proofs.Common.{◌≡◌, drop}
use Rattle.std.specs.List.{list_any}
use Rattle.cjc_check_rules.specs.Handlers.{meet}
use Rattle.cjc_check_tables.proofs.counts.handlers.meets_any.Given as goal

abbrev pub invariant-loop-other : goal.invariant-loop-other
invariant-loop-other l = list_any (meet l.one) (drop l.other-index l.later) ≡ list_any (meet l.one) l.later
