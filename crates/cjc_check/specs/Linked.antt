-- The first places of the sentences that look classes, methods and types up.
use Rattle.std.specs.Prelude.{◌≡◌, List}
use Rattle.cjc_check_rules.specs.ExportFile.declared.tree.ExportTree.{ExportTree}
use Rattle.cjc_check.specs.declared.linked.Linked.{Linked}
use Rattle.cjc_check_rules.specs.Spots.{first}
use Rattle.cjc_check_rules.specs.Complete.{Complete}
use Rattle.cjc_check_rules.specs.ClassRefs.{class_ref_spots, super_spots}
use Rattle.cjc_check_rules.specs.PoolEntries.{pool_spots}
use Rattle.cjc_check_rules.specs.Tables.{map_spots, table_spots}
use Rattle.cjc_check_rules.specs.Statics.{install_spots}
use Rattle.cjc_check_rules.specs.Exports.{export_spots}
use Rattle.cjc_check_rules.specs.Described.{descriptor_spots}

-- the places kept are the first where 704 to 708, 715, 717 and 718 are broken
pub record AreFirst (r : Linked) (c : Complete) (exports : List ExportTree) : Type 0 where
  pub class_refs : r.class_refs ≡ first (class_ref_spots c exports)
  pub supers : r.supers ≡ first (super_spots c exports)
  pub tables : r.tables ≡ first (table_spots c)
  pub maps : r.maps ≡ first (map_spots c exports)
  pub entries : r.entries ≡ first (pool_spots c exports)
  pub installs : r.installs ≡ first (install_spots c)
  pub exported : r.exported ≡ first (export_spots c)
  pub descriptor : r.descriptor ≡ first (descriptor_spots c)
