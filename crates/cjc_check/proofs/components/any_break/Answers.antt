use Rattle.std.proofs.Common.{[], ◌∷◌, true, refl}
use Rattle.std.specs.Prelude.{flat_map}
use Rattle.cjc_check_rules.specs.Complete.{complete}
use Rattle.cjc_check_rules.specs.Consistent.{breaks_of, sentence, where_complete}
use Rattle.cjc_check_rules.specs.Listed.{directory_spots, flags_spots}
use Rattle.cjc_check.proofs.components.any_break.Goals as goal

pub returns : goal.returns
returns c =
    let tree = c.args.tree.now in
    let s703 = where_complete (complete tree) c.args.exports.now in
    let s702 = sentence 702 true (flags_spots tree) ∷ s703 in
    let f702 = c.with_sentence-flags.ensures true (flags_spots tree) (flat_map breaks_of s703) refl c.flags_spot.ensures
    c.in_ok-later.ensures in
    c.with_sentence.ensures true (directory_spots tree) (flat_map breaks_of s702) refl c.directory_spot.ensures f702
