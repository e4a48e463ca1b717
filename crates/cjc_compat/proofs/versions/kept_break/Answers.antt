use Rattle.cjc_export.proofs.BytesFirsts.{at_same}
use Rattle.cjc_compat.proofs.versions.kept_break.Goals as goal

pub returns : goal.returns
returns c = λ f n e.
    c.first-3.ensures _ _
    (c.first-2.ensures _ _
    (c.first-whole.ensures _ _
    (c.first.ensures _ _
    (at_same 742 _ c.is_other_class.ensures e c.broken-class.ensures)
    (at_same 744 _ c.is_other_table.ensures e c.broken-table.ensures))
    (at_same 745 _ c.in_ok-is_less.ensures e c.broken-supers.ensures))
    (c.fields_break.ensures f n e))
    (c.methods_break.ensures f n e)
