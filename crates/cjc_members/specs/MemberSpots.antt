-- The first places of the sentences on what components name by token.
use Rattle.std.specs.Prelude.{◌≡◌, List}
use Rattle.cjc_export.specs.declared.tree.ExportTree.{ExportTree}
use Rattle.cjc_members.specs.declared.spots.MemberSpots.{MemberSpots}
use Rattle.cjc_sentences.specs.Spots.{first}
use Rattle.cjc_sentences.specs.Complete.{Complete}
use Rattle.cjc_sentences.specs.PoolEntries.{pool_spots}
use Rattle.cjc_sentences.specs.Tables.{map_spots}

-- the places kept are the first where interface maps (707) and pool entries (708) are broken
pub record AreMemberSpots (r : MemberSpots) (c : Complete) (exports : List ExportTree) : Type 0 where
  pub maps : r.maps ≡ first (map_spots c exports)
  pub entries : r.entries ≡ first (pool_spots c exports)
