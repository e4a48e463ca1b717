use Rattle.std.proofs.Common.{◌≡◌, drop}
use Rattle.std.specs.List.{list_any}
use Rattle.cjc_int_mode.specs.Working.Pairs.{is_unusable}
use Rattle.cjc_int_mode.proofs.space.has_unusable.Given as goal

abbrev pub invariant-loop-k : goal.invariant-loop-k
invariant-loop-k l = list_any is_unusable (drop l.k l.stack) ≡ list_any is_unusable l.stack
