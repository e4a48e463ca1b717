-- The tables of a world before its rules are tested: what stands above each class, what it gets, and cycles.
use Rattle.std.specs.Prelude.{◌≡◌, ℕ, ◌<◌, List, length, slice_get, Bool, true, false, Option, Some, None}
use Rattle.cjc_classfile.specs.declared.tree.ClassTree.{ClassTree}
use Rattle.cjc_world.specs.declared.class.Known.{Known}
use Rattle.cjc_world.specs.declared.class.Known.TheVariants as kinds
use Rattle.cjc_world.specs.declared.circular.Cycles.{Cycles}
use Rattle.cjc_world.specs.declared.unchecked.Tables.{Tables}
use Rattle.cjc_world.specs.Working.Steps.{AreCycles}
use Rattle.cjc_world.specs.Files.{Files}
use Rattle.cjc_world.specs.declared.tables.Above.{Above}
use Rattle.cjc_world.specs.Classes.{all_classes, declared}
use Rattle.cjc_world.specs.Supertypes.{IsAcyclic}
use Rattle.cjc_world.specs.Working.Tables.{IsTable, IsPart, are_ready}
use Rattle.cjc_world.specs.Added.{added_at}

-- The tables have what stands above each class, and what each class of the package gets.
pub record AreTables (files : Files) (t : Tables) : Type 0 where
  pub above : IsTable (all_classes files) t.above
  pub count : length t.added ≡ length files.classes
  pub added : (i : ℕ) → i < length files.classes → slice_get t.added i ≡ Some (added_at files i)

-- whether the rows of all that a class of the package lists are there
abbrev pub is_ready_of : Files → List (Option Above) → ℕ → Option ClassTree → Bool
is_ready_of files rows number None = false
is_ready_of files rows number (Some c) = are_ready (all_classes files) rows (declared number c)

-- the same of the class of the package that has this number
abbrev pub is_number_ready : Files → List (Option Above) → ℕ → Bool
is_number_ready files rows number = is_ready_of files rows number (slice_get files.classes number)

-- What is kept of classes with no cycle at them or above them; and where there is some cycle, what is asked of it.
pub record IsKept (files : Files) (t : Tables) (cycles : Option Cycles) : Type 0 where
  pub part : IsPart (all_classes files) t.above
  pub count : length t.added ≡ length files.classes
  pub added : (i : ℕ) → is_number_ready files t.above i ≡ true → slice_get t.added i ≡ Some (added_at files i)
  pub acyclic : cycles ≡ None → IsAcyclic (all_classes files)
  pub asked : (c : Cycles) → cycles ≡ Some c → AreCycles (all_classes files) c

-- a class of the package stands at its number
abbrev pub IsHeld : Files → Known → Type 0
IsHeld files (kinds.Declared number c) = slice_get files.classes number ≡ Some c.now
IsHeld files (kinds.Imported number c) = Unit {0}
