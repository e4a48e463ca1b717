-- What is read where several packages are to run together: the text that names them, of each its list, the files of
-- the list and the components of its folder, and a script.
use Rattle.std.specs.Prelude.{ℕ, ◌<◌, ◌^◌, List, [], ◌∷◌, ◌++◌, length, false}
use Rattle.std.specs.List.{AllByRecursion}
use Rattle.cjc_cmd_card.specs.Running.Reads.{IsInput}
use Rattle.cjc_cmd_card.specs.declared.running.input.Input.{Input}
use Rattle.cjc_cmd_card.specs.Shelf.Command.Plan.{Plan, has, ◌>>=◌, for_each, read, unless_refused}
use Rattle.cjc_cmd_link.specs.declared.reads.GroupInput.{GroupInput}
use Rattle.cjc_cmd_card.specs.Running.Package.{plan_of_input}
use Rattle.cjc_group.specs.Grouped.{grouped}
use Rattle.cjc_group.specs.declared.line.PackageLine.{PackageLine}

-- the package of one line more, with no script, behind those that are there
abbrev pub member_behind : List Input → PackageLine → Plan (List Input)
member_behind front line = do
  member ← plan_of_input line.list line.folder
  has (front ++ member ∷ [])

-- the packages of these lines, in order
abbrev pub plan_of_members : List PackageLine → Plan (List Input)
plan_of_members lines = for_each (λ front. false) member_behind [] lines

-- behind the packages, the script
abbrev pub plan_behind_members : (script : List ℕ) → List Input → Plan GroupInput
plan_behind_members script members = do
  text ← read script
  has (record { members = members; script = text })

-- behind the lines, the packages and then the script
abbrev pub plan_behind_lines : (script : List ℕ) → List PackageLine → Plan GroupInput
plan_behind_lines script lines = do
  members ← plan_of_members lines
  plan_behind_members script members

-- what is read behind the text that names packages, unless it is refused
abbrev pub plan_behind_text : (name script text : List ℕ) → Plan GroupInput
plan_behind_text name script text = do
  lines ← unless_refused (grouped name text)
  plan_behind_lines script lines

-- the text of this name, the packages that it names, and the script of that name
abbrev pub plan_of_group : (name script : List ℕ) → Plan GroupInput
plan_of_group name script = do
  text ← read name
  plan_behind_text name script text

-- What was read: packages, each with what its list and Directory say is there, and a script of four bytes' length.
pub record IsGroup (input : GroupInput) : Type 0 where
  pub members : AllByRecursion IsInput input.members
  pub script : length input.script < 2 ^ 32
