-- The first places of the sentences on code.
use Rattle.std.specs.Prelude.{◌≡◌}
use Rattle.cjc_check.specs.declared.coded.Coded.{Coded}
use Rattle.cjc_check_rules.specs.Spots.{first}
use Rattle.cjc_check_rules.specs.Complete.{Complete}
use Rattle.cjc_check_rules.specs.Codes.{whole_spots}
use Rattle.cjc_check_rules.specs.Instructions.{index_spots, jump_spots}
use Rattle.cjc_check_rules.specs.Handlers.{handler_spots}
use Rattle.cjc_check_rules.specs.Locations.{location_spots}

-- the places kept are the first where 709 to 712 and 714 are broken
pub record AreCoded (r : Coded) (c : Complete) : Type 0 where
  pub whole : r.whole ≡ first (whole_spots c)
  pub jumps : r.jumps ≡ first (jump_spots c)
  pub indices : r.indices ≡ first (index_spots c)
  pub handlers : r.handlers ≡ first (handler_spots c)
  pub locations : r.locations ≡ first (location_spots c)
