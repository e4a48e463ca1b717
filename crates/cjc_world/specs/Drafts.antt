-- What a world keeps beside its files.
use Rattle.std.specs.Prelude.{◌≡◌, ℕ, ◌<◌, length, slice_get, Option, Some, None}
use Rattle.cjc_world.specs.declared.class.Known.{Known}
use Rattle.cjc_world.specs.declared.class.Known.TheVariants as kinds
use Rattle.cjc_world.specs.declared.draft.Tables.{Tables}
use Rattle.cjc_world.specs.Files.{Files}
use Rattle.cjc_world.specs.Classes.{all_classes}
use Rattle.cjc_world.specs.Kin.{IsAcyclic}
use Rattle.cjc_world.specs.Tables.{IsTable}
use Rattle.cjc_world.specs.Added.{added_at}

pub record AreTables (files : Files) (t : Tables) : Type 0 where
  pub above : IsTable (all_classes files) t.above
  pub count : length t.added ≡ length files.classes
  pub added : (i : ℕ) → i < length files.classes → slice_get t.added i ≡ Some (added_at files i)

-- The tables are there exactly where no class is its own super.
pub record AreTablesOrCyclic (files : Files) (tables : Option Tables) : Type 0 where
  pub some : (t : Tables) → tables ≡ Some t → AreTables files t
  pub none : tables ≡ None → IsAcyclic (all_classes files) → ⊥

-- a class of the package stands at its number
abbrev pub IsHeld : Files → Known → Type 0
IsHeld files (kinds.Declared number c) = slice_get files.classes number ≡ Some c.now
IsHeld files (kinds.Imported number c) = Unit {0}
