-- What `check LIST DIR` reads, and what it prints.
use Rattle.std.specs.Prelude.{◌≡◌, ℕ, List, [], ◌∷◌, ◌++◌, codes, Option, Some, None, Result, Ok, Err}
use Rattle.cjc_bytes.specs.Breaks.{Break, IsFirst}
use Rattle.cjc_bytes.specs.declared.fault.Refusal.{Refusal}
use Rattle.cjc_capread.specs.declared.tree.CapTree.{CapTree}
use Rattle.cjc_shelf.specs.Command.Plan.{Plan, has, ◌>>=◌}
use Rattle.cjc_shelf.specs.declared.command.status.Todo.{Todo}
use Rattle.cjc_check.specs.LowerExportFile.declared.tree.ExportTree.{ExportTree}
use Rattle.cjc_cmd_check.specs.Folder.Breaks.{cap_in, export_trees, file_breaks, unless_broken}
use Rattle.cjc_cmd_check.specs.Folder.Reads.{plan_of_folder}
use Rattle.cjc_cmd_check.specs.declared.folder.folder.Folder.{Folder}
use Rattle.cjc_check.specs.LowerCheckRules.Consistent.{Consistent, breaks}

-- the list of this name, its export files, and the components of the folder
abbrev pub plan_of_check : (name dir : List ℕ) → Plan Folder
plan_of_check name dir = do
  folder ← plan_of_folder name dir
  has folder

-- the sentences that components break
abbrev pub sentence_breaks : Option CapTree → List ExportTree → List Break
sentence_breaks None exports = []
sentence_breaks (Some cap) exports = breaks cap exports

-- What is broken: 104 by export files, else 106 by components, else 701 to 718 by what the components say together.
abbrev pub check_breaks : Folder → List Break
check_breaks f = unless_broken (file_breaks f) (sentence_breaks (cap_in f.parts) (export_trees f.exports))

-- the line that is printed
abbrev pub ok_line : List ℕ
ok_line = codes "ok" ++ 10 ∷ []

-- The components of a folder are consistent with its export files.
abbrev pub AreConsistent : Folder → Type 0
AreConsistent f = (cap : CapTree) × (cap_in f.parts ≡ Some cap) × Consistent cap (export_trees f.exports)

-- What is printed where nothing is broken, so that the components are consistent, and else which rule is broken first.
abbrev pub Checks : Folder → Result Todo Refusal → Type 0
Checks f (Ok todo) = (check_breaks f ≡ []) × AreConsistent f × (todo ≡ record { files = []; lines = ok_line ∷ [] })
Checks f (Err r) = (b : Break) × IsFirst b (check_breaks f) × (r ≡ b.refusal)
