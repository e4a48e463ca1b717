use Rattle.std.proofs.Common.{ap, ◌∙◌}
use Rattle.std.specs.Prelude.{not}
use Rattle.cjc_subset.specs.Exports.{is_class_name, listed_class_breaks}
use Rattle.cjc_bytes.proofs.Firsts.{at_same}
use Rattle.cjc_subset.proofs.exports.listed_class_break.Goals as goal

pub returns : goal.returns
unfolding listed_class_breaks
returns c = λ f n e.
    c.first.ensures _ _
    (at_same 301 _ (ap not (c.is_class_name.ensures ∙ ap is_class_name c.items.ensures)) e c.broken-unnamed.ensures)
    (c.listed_methods_break.ensures f n e)
