-- The first places of all sentences on components of which only Applet and Export may be absent.
use Rattle.std.specs.Prelude.{◌≡◌, List, [], ◌∷◌, true}
use Rattle.cjc_check_rules.specs.ExportFile.declared.tree.ExportTree.{ExportTree}
use Rattle.cjc_check.specs.declared.firsts.Counted.{Counted}
use Rattle.cjc_check.specs.declared.firsts.Firsts.{Firsts}
use Rattle.cjc_check.specs.Coded.{AreCoded}
use Rattle.cjc_check.specs.Linked.{AreFirst}
use Rattle.cjc_check_rules.specs.Codes.{whole_spots}
use Rattle.cjc_check_rules.specs.Complete.{Complete}
use Rattle.cjc_check_rules.specs.Consistent.{Sentence, is_true, sentence}
use Rattle.cjc_check_rules.specs.Described.{descriptor_spots}
use Rattle.cjc_check_rules.specs.Exports.{export_spots}
use Rattle.cjc_check_rules.specs.Handlers.{handler_spots, stop_spots}
use Rattle.cjc_check_rules.specs.Imports.{import_spots}
use Rattle.cjc_check_rules.specs.Instructions.{index_spots, jump_spots}
use Rattle.cjc_check_rules.specs.Locations.{location_spots}
use Rattle.cjc_check_rules.specs.Spots.{first}
use Rattle.cjc_check_rules.specs.Statics.{image_spots, install_spots}

-- the places kept are the first where 703, 713 and 716 are broken
pub record AreCounted (r : Counted) (c : Complete) (exports : List ExportTree) : Type 0 where
  pub imports : r.imports ≡ first (import_spots c.import exports)
  pub stops : r.stops ≡ first (stop_spots c.method)
  pub image : r.image ≡ first (image_spots c.statics)

-- the places kept are the first where each of 703 to 718 is broken
pub record AreFirsts (r : Firsts) (c : Complete) (exports : List ExportTree) : Type 0 where
  pub counted : AreCounted r.counted c exports
  pub linked : AreFirst r.linked c exports
  pub coded : AreCoded r.coded c

-- the last ten sentences
abbrev pub from_whole : Complete → List Sentence
from_whole c =
    let whole = is_true (whole_spots c) in
    sentence 709 true (whole_spots c)
    ∷ sentence 710 whole (jump_spots c)
    ∷ sentence 711 whole (index_spots c)
    ∷ sentence 712 whole (handler_spots c)
    ∷ sentence 713 true (stop_spots c.method)
    ∷ sentence 714 whole (location_spots c)
    ∷ sentence 715 true (install_spots c)
    ∷ sentence 716 true (image_spots c.statics)
    ∷ sentence 717 true (export_spots c)
    ∷ sentence 718 true (descriptor_spots c)
    ∷ []
