use Rattle.std.proofs.Common.{arith}
use Rattle.std.proofs.lemmas.Int.{ints}
use Rattle.cjc_range.specs.Span.{span}
use Rattle.cjc_range.proofs.Spans.{neg_from, neg_holds}
use Rattle.cjc_range.proofs.Interval.neg.Goals as goal

pub returns-clause-row : goal.returns-clause-row
returns-clause-row c =
    let x = c.self.inside in
    rw (← c.self.view_is)
    (neg_from (span x.low x.high) _ _ _ c.clipped.ensures c.self.invariant (omega (arith, ints)) (omega (arith, ints)))

pub returns-clause-holds : goal.returns-clause-holds
returns-clause-holds c x h = rw (returns-clause-row c) (neg_holds c.args.self x h)
