use Rattle.std.proofs.Common.{List, Bool, false, ap, ◌∙◌, get_or}
use Rattle.cjc_check_tables.specs.Exported.{has_cell}
use Rattle.cjc_check_tables.proofs.exported.offsets.field_spot.Goals as goal

pub returns : goal.returns
returns c = c.first_unmarked.ensures (λ n o. has_cell c.args.fields.now n o)
    (λ n lt. ap (λ (bs : List Bool). get_or bs n false) c.items.ensures ∙ c.in_ok-marks.ensures.each n lt)
