use Rattle.std.proofs.Common.{[], ◌∷◌, true, refl}
use Rattle.std.specs.Prelude.{flat_map}
use Rattle.cjc_check_rules.specs.Codes.{whole_spots}
use Rattle.cjc_check_rules.specs.Consistent.{breaks_of, is_true, sentence}
use Rattle.cjc_check_rules.specs.Described.{descriptor_spots}
use Rattle.cjc_check_rules.specs.Exports.{export_spots}
use Rattle.cjc_check_rules.specs.Handlers.{handler_spots, stop_spots}
use Rattle.cjc_check_rules.specs.Instructions.{index_spots, jump_spots}
use Rattle.cjc_check_rules.specs.Locations.{location_spots}
use Rattle.cjc_check_rules.specs.Statics.{image_spots, install_spots}
use Rattle.cjc_check.proofs.firsts.from_whole.Goals as goal

pub returns : goal.returns
returns c = λ t exports are.
    let whole = is_true (whole_spots t) in
    let is = c.is_true-whole.ensures (whole_spots t) are.coded.whole in
    let s718 = sentence 718 true (descriptor_spots t) ∷ [] in
    let s717 = sentence 717 true (export_spots t) ∷ s718 in
    let s716 = sentence 716 true (image_spots t.statics) ∷ s717 in
    let s715 = sentence 715 true (install_spots t) ∷ s716 in
    let s714 = sentence 714 whole (location_spots t) ∷ s715 in
    let s713 = sentence 713 true (stop_spots t.method) ∷ s714 in
    let s712 = sentence 712 whole (handler_spots t) ∷ s713 in
    let s711 = sentence 711 whole (index_spots t) ∷ s712 in
    let s710 = sentence 710 whole (jump_spots t) ∷ s711 in
    let f718 = c.with_sentence-descriptor.ensures true (descriptor_spots t) [] refl are.linked.descriptor refl in
    let f717 = c.with_sentence-exported.ensures true (export_spots t) (flat_map breaks_of s718) refl are.linked.exported
    f718 in
    let f716 = c.with_sentence-image.ensures true (image_spots t.statics) (flat_map breaks_of s717) refl
    are.counted.image f717 in
    let f715 = c.with_sentence-installs.ensures true (install_spots t) (flat_map breaks_of s716) refl
    are.linked.installs f716 in
    let f714 = c.with_sentence-locations.ensures whole (location_spots t) (flat_map breaks_of s715) is
    are.coded.locations f715 in
    let f713 = c.with_sentence-stops.ensures true (stop_spots t.method) (flat_map breaks_of s714) refl are.counted.stops
    f714 in
    let f712 = c.with_sentence-handlers.ensures whole (handler_spots t) (flat_map breaks_of s713) is are.coded.handlers
    f713 in
    let f711 = c.with_sentence-indices.ensures whole (index_spots t) (flat_map breaks_of s712) is are.coded.indices f712
    in
    let f710 = c.with_sentence-jumps.ensures whole (jump_spots t) (flat_map breaks_of s711) is are.coded.jumps f711 in
    c.with_sentence.ensures true (whole_spots t) (flat_map breaks_of s710) refl are.coded.whole f710
