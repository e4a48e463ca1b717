use Rattle.std.proofs.Common.{◌≡◌}
use Rattle.cjc_flow.specs.Intervals.Frames.{spans_of}
use Rattle.cjc_flow.specs.Tests.Working.Search.{arguments_rule}
use Rattle.cjc_int_mode.proofs.rules.arguments_rule.Given as goal

abbrev pub invariant-loop-k : goal.invariant-loop-k
invariant-loop-k l = l.rule ≡ arguments_rule l.fn.method l.k (spans_of l.before.stack)
