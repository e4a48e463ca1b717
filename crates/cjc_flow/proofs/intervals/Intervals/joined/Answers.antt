use Rattle.std.proofs.Common.{reverse, ap, ◌∙◌}
use Rattle.cjc_range.specs.Rows.{join_row}
use Rattle.cjc_types.proofs.Reversed.{joined_view}
use Rattle.cjc_flow.proofs.intervals.Intervals.joined.Goals as goal

pub returns : goal.returns
returns c =
    joined_view join_row c.self.inside.cells.items c.as_slice.result.now c.joined-cells.result.items c.args.self
    c.args.other.now c.self.view_is (ap reverse c.as_slice.ensures.value ∙ c.other.view_is) c.requires
    c.joined-cells.ensures
