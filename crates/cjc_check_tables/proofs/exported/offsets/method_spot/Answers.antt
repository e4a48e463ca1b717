use Rattle.std.proofs.Common.{List, Bool, false, ap, ◌∙◌, get_or}
use Rattle.std.specs.Prelude.{◌&&◌}
use Rattle.cjc_check_index.specs.Lookup.Parts.{complete_of}
use Rattle.cjc_check_rules.specs.Members.{is_method_start}
use Rattle.cjc_check_tables.specs.Exported.{has_start}
use Rattle.cjc_check_tables.proofs.exported.offsets.method_spot.Goals as goal

pub returns : goal.returns
returns c =
    c.first_unmarked.ensures (λ n o. is_method_start (complete_of c.args.methods.now.names.now.parts.now) o
    && has_start c.args.described.now n o)
    (λ n lt. ap (λ (bs : List Bool). get_or bs n false) c.items.ensures ∙ c.in_ok-marks.ensures.each n lt)
