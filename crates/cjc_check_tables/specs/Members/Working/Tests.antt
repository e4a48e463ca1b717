-- Where one index of a map or one entry of the pool breaks a sentence on members: what the code tests, item by
-- item.
use Rattle.std.specs.Prelude.{ℕ, List}
use Rattle.cjc_capread.specs.declared.tree.PoolEntry.{PoolEntry}
use Rattle.cjc_check_rules.specs.ExportFile.declared.tree.ExportTree.{ExportTree}
use Rattle.cjc_check_rules.specs.declared.spot.ComponentPlace.{ComponentPlace}
use Rattle.cjc_check_rules.specs.Spots.{in_info, unless}
use Rattle.cjc_check_rules.specs.Complete.{Complete}
use Rattle.cjc_check_rules.specs.PoolEntries.{names_member}
use Rattle.cjc_check_rules.specs.Tables.{is_index}

-- an index of a map of the class at an offset
abbrev pub index_spot : Complete → List ExportTree → (class : ℕ) → (at index : ℕ) → List ComponentPlace
index_spot c exports class at index = unless (is_index c exports class index) (in_info 6 at)

-- an entry of the constant pool
abbrev pub entry_spot : Complete → List ExportTree → (at : ℕ) → PoolEntry → List ComponentPlace
entry_spot c exports at entry = unless (names_member c exports entry) (in_info 5 at)
