-- What is read where the types of components are to be tested: a list, its files, and the components of a folder. It is
-- what `card` reads, with a script of no lines in place of the one that `card` is given.
use Rattle.std.specs.Prelude.{ℕ, List, []}
use Rattle.cjc_cmd_card.specs.declared.running.input.Input.{Input}
use Rattle.cjc_cmd_check.specs.Folder.Reads.{plan_of_parts}
use Rattle.cjc_cmd_jvm.specs.Running.Reads.{names_of}
use Rattle.cjc_cmd_jvm.specs.LowerShelf.Command.Plan.{Plan, has, ◌>>=◌, read, read_each, unless_refused}
use Rattle.cjc_cmd_check.specs.List.Listed.{ListTree, listed}

-- behind the files of a list, the components of the folder
abbrev pub plan_behind_files : (dir : List ℕ) → ListTree → List (List ℕ) → Plan Input
plan_behind_files dir list files = do
  parts ← plan_of_parts dir
  has (record { list = list; files = files; parts = parts; script = [] })

-- behind a list its files, in the order of its lines, and the components of the folder
abbrev pub plan_behind_list : (dir : List ℕ) → ListTree → Plan Input
plan_behind_list dir list = do
  files ← read_each (names_of list.lines)
  plan_behind_files dir list files

-- what is read behind the text of a list, unless the text is refused
abbrev pub plan_behind_text : (name dir text : List ℕ) → Plan Input
plan_behind_text name dir text = do
  list ← unless_refused (listed name text)
  plan_behind_list dir list

-- the list of this name, its files, and the components of the folder
abbrev pub plan_of_input : (name dir : List ℕ) → Plan Input
plan_of_input name dir = do
  text ← read name
  plan_behind_text name dir text
