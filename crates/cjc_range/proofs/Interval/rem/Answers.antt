use Rattle.std.proofs.Common.{rules}
use Rattle.cjc_range.proofs.Spans.{rem_holds}
use Rattle.cjc_range.proofs.Interval.rem.Goals as goal

pub returns-clause-row : goal.returns-clause-row
returns-clause-row c = search rules

pub returns-clause-holds : goal.returns-clause-holds
returns-clause-holds c x y h k n = rw (returns-clause-row c) (rem_holds c.args.self c.args.other x y h k n)
