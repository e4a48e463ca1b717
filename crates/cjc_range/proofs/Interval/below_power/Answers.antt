use Rattle.std.proofs.Common.{inl, inr, arith}
use Rattle.std.proofs.lemmas.Int.{ints}
use Rattle.cjc_range.specs.Span.{span}
use Rattle.cjc_range.proofs.Bits.{below_power_down}
use Rattle.cjc_range.proofs.Interval.below_power.Goals.{else-self-ge0-via-then-self-ge0+else-other-ge0}
use Rattle.cjc_range.proofs.Interval.below_power.Goals.{else-self-ge0-via-else-self-ge0}
use Rattle.cjc_range.proofs.Interval.below_power.Goals as goal

pub returns-else-self-ge0 : goal.returns-else-self-ge0
returns-else-self-ge0 c =
    let x = c.self.inside in
    let y = c.other.inside in
    rw (← c.self.view_is, ← c.other.view_is)
    (below_power_down (span x.low x.high) (span y.low y.high) _ _ _ c.args.power c.between-else-self-ge0.ensures
    (elim c.else-self-ge0.branch [
      | else-self-ge0-via-then-self-ge0+else-other-ge0 w ↦ inr (omega (arith, ints))
      | else-self-ge0-via-else-self-ge0 w ↦ inl (omega (arith, ints))
    ])
    (omega (arith, ints)) (omega (arith, ints)))
