use Rattle.std.proofs.Common.{List, reverse, sum_by, ap, ◌∙◌}
use Rattle.cjc_range.specs.Span.{Span, width}
use Rattle.cjc_types.proofs.Reversed.{sum_reversed}
use Rattle.cjc_flow.proofs.intervals.Intervals.width.Goals as goal

pub returns-clause-rank : goal.returns-clause-rank
returns-clause-rank c = c.width_of_all.ensures.rank ∙ sum_reversed width c.as_slice.result.now
    ∙ ap (λ (zs : List Span). sum_by width zs) (ap reverse c.as_slice.ensures.value ∙ c.self.view_is)
