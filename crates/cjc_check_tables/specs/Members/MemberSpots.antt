-- The first places of the sentences on what components name by token.
use Rattle.std.specs.Prelude.{◌≡◌, List}
use Rattle.cjc_check_rules.specs.ExportFile.declared.tree.ExportTree.{ExportTree}
use Rattle.cjc_check_tables.specs.declared.members.spots.MemberSpots.{MemberSpots}
use Rattle.cjc_check_rules.specs.Spots.{first}
use Rattle.cjc_check_rules.specs.Complete.{Complete}
use Rattle.cjc_check_rules.specs.PoolEntries.{pool_spots}
use Rattle.cjc_check_rules.specs.Tables.{map_spots}

-- the places kept are the first where interface maps (707) and pool entries (708) are broken
pub record AreMemberSpots (r : MemberSpots) (c : Complete) (exports : List ExportTree) : Type 0 where
  pub maps : r.maps ≡ first (map_spots c exports)
  pub entries : r.entries ≡ first (pool_spots c exports)
