-- What a world keeps beside its files.
use Rattle.std.specs.Prelude.{◌≡◌, ℕ, ◌<◌, length, slice_get, Some}
use Rattle.cjc_world.specs.declared.class.Known.{Known}
use Rattle.cjc_world.specs.declared.class.Known.TheVariants as kinds
use Rattle.cjc_world.specs.declared.circular.Cycles.{Cycles}
use Rattle.cjc_world.specs.declared.draft.Kept.{Kept}
use Rattle.cjc_world.specs.declared.draft.Kept.TheVariants as kepts
use Rattle.cjc_world.specs.declared.draft.Tables.{Tables}
use Rattle.cjc_world.specs.Working.Steps.{AreCycles}
use Rattle.cjc_world.specs.Files.{Files}
use Rattle.cjc_world.specs.Classes.{all_classes}
use Rattle.cjc_world.specs.Kin.{IsAcyclic}
use Rattle.cjc_world.specs.Working.Tables.{IsTable}
use Rattle.cjc_world.specs.Added.{added_at}

pub record AreTables (files : Files) (t : Tables) : Type 0 where
  pub above : IsTable (all_classes files) t.above
  pub count : length t.added ≡ length files.classes
  pub added : (i : ℕ) → i < length files.classes → slice_get t.added i ≡ Some (added_at files i)

-- The tables are kept exactly where no class is its own super.
pub record IsKept (files : Files) (kept : Kept) : Type 0 where
  pub tables : (t : Tables) → kept ≡ kepts.Tables t → AreTables files t
  pub cyclic : (c : Cycles) → kept ≡ kepts.Cycles c → IsAcyclic (all_classes files) → ⊥
  pub cycles : (c : Cycles) → kept ≡ kepts.Cycles c → AreCycles (all_classes files) c

-- a class of the package stands at its number
abbrev pub IsHeld : Files → Known → Type 0
IsHeld files (kinds.Declared number c) = slice_get files.classes number ≡ Some c.now
IsHeld files (kinds.Imported number c) = Unit {0}
