use Rattle.std.proofs.Common.{ℕ, ◌+◌, ◌*◌, ap, ◌∙◌, length, List, Bool}
use Rattle.std.specs.Prelude.{◌==◌}
use Rattle.cjc_capread.specs.declared.tree.ArrayInit.{ArrayInit}
use Rattle.cjc_check_rules.specs.Complete.{array_size}
use Rattle.cjc_check_rules.specs.Spots.{along, first, in_info, unless}
use Rattle.cjc_check_rules.specs.Statics.{in_array}
use Rattle.cjc_check_rules.proofs.Firsts.{joined}
use Rattle.cjc_check_tables.proofs.counts.statics.image_spot.Goals as goal

pub returns : goal.returns
returns c =
    let sum = c.adds_up-is_sum.ensures ∙ ap (λ (xs : List ℕ). c.args.statics.now.image_size ==
    2 * c.args.statics.now.reference_count + c.args.statics.now.default_value_count + length xs)
    c.items-values.ensures in
    let size = c.unless-size.ensures ∙ ap (λ (b : Bool). first (unless b (in_info 8 0))) sum in
    let count = c.unless-count.ensures ∙ ap (λ (b : Bool). first (unless b (in_info 8 4))) c.has_room.ensures in
    let arrays = c.in_arrays-arrays.ensures ∙ ap (λ (xs : List ArrayInit). first (along array_size in_array 6 xs))
    c.items.ensures in
    c.earlier-2.ensures ∙ joined _ _ _ _ (c.earlier.ensures ∙ joined _ _ _ _ size count) arrays
