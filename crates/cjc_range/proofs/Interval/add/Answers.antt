use Rattle.std.proofs.Common.{◌+ℤ◌, arith}
use Rattle.std.proofs.lemmas.Int.{ints, clamps}
use Rattle.cjc_range.specs.Span.{span}
use Rattle.cjc_range.proofs.Spans.{over_from, add_holds}
use Rattle.cjc_range.proofs.Interval.add.Goals as goal

pub returns-clause-row : goal.returns-clause-row
returns-clause-row c =
    let x = c.self.inside in
    let y = c.other.inside in
    rw (← c.self.view_is, ← c.other.view_is)
    (over_from (λ x y. x +ℤ y) (span x.low x.high) (span y.low y.high) _ _ _ c.clipped.ensures (omega (
      arith,
      ints,
      clamps,
    )) (omega (arith, ints, clamps)))

pub returns-clause-holds : goal.returns-clause-holds
returns-clause-holds c x y h k = rw (returns-clause-row c) (add_holds c.args.self c.args.other x y h k)
