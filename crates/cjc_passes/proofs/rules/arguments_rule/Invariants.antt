use Rattle.std.proofs.Common.{◌≡◌}
use Rattle.cjc_range_flow.specs.Frames.{spans_of}
use Rattle.cjc_passes.specs.Working.Search.{arguments_rule}
use Rattle.cjc_passes.proofs.rules.arguments_rule.Given as goal

abbrev pub invariant-loop-k : goal.invariant-loop-k
invariant-loop-k l = l.rule ≡ arguments_rule l.fn.method l.k (spans_of l.before.stack)
