use Rattle.std.proofs.Common.{rules, arith}
use Rattle.std.proofs.lemmas.Int.{ints}
use Rattle.cjc_range.specs.Span.{span}
use Rattle.cjc_range.proofs.Spans.{div_holds, div_row_other}
use Rattle.cjc_range.proofs.Interval.div.Goals as goal

pub returns-then-other-ge1-clause-row : goal.returns-then-other-ge1-clause-row
returns-then-other-ge1-clause-row c = search rules

pub returns-then-other-ge1-clause-holds : goal.returns-then-other-ge1-clause-holds
returns-then-other-ge1-clause-holds c x y h k n = rw (returns-then-other-ge1-clause-row c) (div_holds c.args.self
    c.args.other x y h k)

pub returns-else-other-ge1-clause-row : goal.returns-else-other-ge1-clause-row
returns-else-other-ge1-clause-row c =
    let y = c.other.inside in
    rw (← c.other.view_is)
    (div_row_other c.args.self (span y.low y.high) _ _ _ c.clipped.ensures (omega (arith, ints)) (omega (arith, ints))
    (omega (arith, ints)))

pub returns-else-other-ge1-clause-holds : goal.returns-else-other-ge1-clause-holds
returns-else-other-ge1-clause-holds c x y h k n = rw (returns-else-other-ge1-clause-row c) (div_holds c.args.self
    c.args.other x y h k)
