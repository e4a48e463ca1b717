-- Kept answers of classes: whether upwards some class is imported.
use Rattle.std.specs.Prelude.{◌≡◌, ℕ, ◌<◌, List, length, get_or, take, reverse, Bool, false}
use Rattle.cjc_capread.specs.declared.tree.ClassEntry.{ClassEntry}
use Rattle.cjc_capread.specs.declared.tree.ClassInfo.{ClassInfo}
use Rattle.cjc_capread.specs.declared.tree.ClassRef.{ClassRef}
use Rattle.cjc_check_rules.specs.Spots.{Placed}
use Rattle.cjc_check_rules.specs.Classes.{classes_at}
use Rattle.cjc_check_tables.specs.declared.links.tables.PublicTable.{PublicTable}
use Rattle.cjc_check_tables.specs.declared.links.tables.Tables.{Tables}
use Rattle.cjc_check_rules.specs.Tables.{leaves}
use Rattle.cjc_check_index.specs.Lookup.MethodStarts.{HasMethods}

-- upwards from a class_ref some class is imported, as far as so many of the first classes go
abbrev pub leaves_among : ClassInfo → (count : ℕ) → ClassRef → Bool
leaves_among info count class = leaves (reverse (take count (classes_at info))) class

-- of each of the first classes whether upwards from its superclass some class is imported
abbrev pub IsLeaving : ClassInfo → List Bool → Type 0
IsLeaving info table = (i : ℕ) (d : Placed ClassEntry) → i < length table → get_or table i false
    ≡ leaves_among info i (get_or (classes_at info) i d).item.superclass

-- kept methods are those of classes, and it is kept of each class whether it leaves the package
pub record HasTables (t : Tables) : Type 0 where
  pub methods : HasMethods t.methods.now
  pub leaving : IsLeaving t.methods.now.names.now.parts.now.class.now t.leaving.now
  pub all : length t.leaving.now ≡ length t.methods.now.names.now.parts.now.class.now.classes

-- the same of one class
pub record HasPublicTable (t : PublicTable) : Type 0 where
  pub methods : HasMethods t.methods.now
  pub leaves : t.leaves ≡ leaves (reverse (classes_at t.methods.now.names.now.parts.now.class.now))
      t.class.now.superclass
