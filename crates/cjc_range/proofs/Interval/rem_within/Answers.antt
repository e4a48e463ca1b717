use Rattle.std.proofs.Common.{inl, inr, arith}
use Rattle.std.proofs.lemmas.Int.{ints}
use Rattle.cjc_range.specs.Span.{span}
use Rattle.cjc_range.proofs.Spans.{rem_within_is}
use Rattle.cjc_range.proofs.Interval.rem_within.Goals.{then-self-ge0, else-self-ge0, then-self-le0, else-self-le0}
use Rattle.cjc_range.proofs.Interval.rem_within.Goals as goal

pub returns : goal.returns
returns c =
    let x = c.self.inside in
    rw (← c.self.view_is)
    (rem_within_is (span x.low x.high) _ _ _ c.args.bound c.between.ensures
    (elim c.if-self-ge0.branch [
      | then-self-ge0 w ↦ inl (omega (arith, ints), omega (arith, ints))
      | else-self-ge0 w ↦ inr (omega (arith, ints), omega (arith, ints))
    ])
    (elim c.if-self-le0.branch [
      | then-self-le0 w ↦ inl (omega (arith, ints), omega (arith, ints))
      | else-self-le0 w ↦ inr (omega (arith, ints), omega (arith, ints))
    ]))
