-- What `compat OLD NEW` reads, and what it prints.
use Rattle.std.specs.Prelude.{◌≡◌, ℕ, List, [], ◌∷◌, ◌++◌, Result, Ok, Err}
use Rattle.cjc_world.specs.Bytes.Breaks.{Break, IsFirst}
use Rattle.cjc_world.specs.Bytes.Format.{FileSpells}
use Rattle.cjc_world.specs.Bytes.Order.{FilePlace}
use Rattle.cjc_world.specs.Bytes.Reading.{read_file}
use Rattle.cjc_world.specs.Bytes.declared.fault.Refusal.{Refusal}
use Rattle.cjc_world.specs.Bytes.declared.order.FileKey.TheVariants as keys
use Rattle.cjc_cmd_check.specs.Check.{ok_line}
use Rattle.cjc_cmd_check.specs.Folder.Breaks.{break_in, unless_broken}
use Rattle.cjc_compat.specs.References.{KeepsReferences}
use Rattle.cjc_compat.specs.Rules.{breaks, new_file}
use Rattle.cjc_compat.specs.ExportFile.ExportFile.{export_file}
use Rattle.cjc_compat.specs.ExportFile.declared.tree.ExportTree.{ExportTree}
use Rattle.cjc_cmd_check.specs.LowerShelf.Command.Plan.{Plan, has, read, ◌>>=◌}
use Rattle.cjc_cmd_check.specs.LowerShelf.declared.command.status.Todo.{Todo}

-- the bytes of the new version, behind those of the old one
abbrev pub plan_of_new : (new bytes : List ℕ) → Plan (List ℕ × List ℕ)
plan_of_new new bytes = do
  more ← read new
  has (bytes, more)

-- the two versions of an export file, by these names
abbrev pub plan_of_compat : (old new : List ℕ) → Plan (List ℕ × List ℕ)
plan_of_compat old new = do
  bytes ← read old
  plan_of_new new bytes

-- the file of the old version
abbrev pub old_file : List ℕ → FilePlace
old_file name = record { key = keys.Line 0; name = name }

-- 104: a version that is no export file
abbrev pub format_breaks : (old new : List ℕ) → List ℕ × List ℕ → List Break
format_breaks old new files = break_in 104 (old_file old) (read_file export_file files.0)
    ++ break_in 104 (new_file new) (read_file export_file files.1)

-- 741 to 745: of two versions that were read
abbrev pub version_breaks : (new : List ℕ) → Result ExportTree ℕ → Result ExportTree ℕ → List Break
version_breaks new (Ok old_tree) (Ok new_tree) = breaks new old_tree new_tree
version_breaks new _ _ = []

-- What is broken: 104 by a version, else 741 to 745 by what both say.
abbrev pub compat_breaks : (old new : List ℕ) → List ℕ × List ℕ → List Break
compat_breaks old new files = unless_broken (format_breaks old new files)
    (version_breaks new (read_file export_file files.0) (read_file export_file files.1))

-- Both versions spell export files, and the new one keeps what the old one says.
pub record AreCompatible (new_name : List ℕ) (files : List ℕ × List ℕ) : Type 0 where
  pub old : ExportTree
  pub new : ExportTree
  pub old_spelt : FileSpells export_file old files.0
  pub new_spelt : FileSpells export_file new files.1
  pub unbroken : breaks new_name old new ≡ []
  pub keeps : KeepsReferences old new

-- What is printed where nothing is broken, so that the versions are compatible, and else which rule is broken first.
abbrev pub Compares : (old new : List ℕ) → List ℕ × List ℕ → Result Todo Refusal → Type 0
Compares old new files (Ok todo) = (compat_breaks old new files ≡ []) × AreCompatible new files
    × (todo ≡ record { files = []; lines = ok_line ∷ [] })
Compares old new files (Err r) = (b : Break) × IsFirst b (compat_breaks old new files) × (r ≡ b.refusal)
