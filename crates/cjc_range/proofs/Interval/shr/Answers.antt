use Rattle.std.proofs.Common.{arith}
use Rattle.std.proofs.lemmas.Grind.{common_steps}
use Rattle.cjc_range.proofs.Spans.{shr_holds}
use Rattle.cjc_range.proofs.Interval.shr.Goals as goal

pub returns-then-other-clause-row : goal.returns-then-other-clause-row
returns-then-other-clause-row c = grind (arith, common_steps)

pub returns-then-other-clause-holds : goal.returns-then-other-clause-holds
returns-then-other-clause-holds c x y h k = rw (returns-then-other-clause-row c) (shr_holds c.args.self c.args.other x y
    h k)

pub returns-else-other-clause-row : goal.returns-else-other-clause-row
returns-else-other-clause-row c = grind (arith, common_steps)

pub returns-else-other-clause-holds : goal.returns-else-other-clause-holds
returns-else-other-clause-holds c x y h k = rw (returns-else-other-clause-row c) (shr_holds c.args.self c.args.other x y
    h k)
