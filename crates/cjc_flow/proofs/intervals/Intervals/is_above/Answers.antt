use Rattle.std.proofs.Common.{reverse, ap, ◌∙◌}
use Rattle.cjc_range.specs.Rows.{join_row}
use Rattle.cjc_types.proofs.Reversed.{above_view}
use Rattle.cjc_flow.proofs.intervals.Intervals.is_above.Goals as goal

pub returns : goal.returns
returns c = λ h.
    above_view join_row c.as_slice.result.now c.as_slice-2.result.now c.args.self.now c.args.other.now
    (ap reverse c.as_slice.ensures.value ∙ c.self.view_is) (ap reverse c.as_slice-2.ensures.value ∙ c.other.view_is)
    c.requires (c.are_above.ensures h)
