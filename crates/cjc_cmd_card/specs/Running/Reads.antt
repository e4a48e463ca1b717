-- What is read where components are to be run: a list, its files, the components of a folder, and a script.
use Rattle.std.specs.Prelude.{◌≡◌, ◌<◌, ◌^◌, ℕ, List, length}
use Rattle.cjc_cmd_jvm.specs.LowerShelf.Command.Plan.{Plan, has, ◌>>=◌, read, read_each, unless_refused}
use Rattle.cjc_cmd_check.specs.Folder.Breaks.{ArePartsRead, ArePartsShort}
use Rattle.cjc_cmd_check.specs.Folder.Reads.{plan_of_parts}
use Rattle.cjc_cmd_check.specs.declared.folder.folder.Parts.{Parts}
use Rattle.cjc_cmd_jvm.specs.Judge.Spelt.{IsRead, AreFiles}
use Rattle.cjc_cmd_check.specs.List.Listed.{ListTree, listed}
use Rattle.cjc_cmd_jvm.specs.Running.Reads.{names_of}
use Rattle.cjc_cmd_card.specs.declared.running.input.Input.{Input}

-- behind the components of a folder, the script
abbrev pub plan_behind_parts : (script : List ℕ) → ListTree → List (List ℕ) → Parts → Plan Input
plan_behind_parts script list files parts = do
  text ← read script
  has (record { list = list; files = files; parts = parts; script = text })

-- behind the files of a list, the components of the folder and then the script
abbrev pub plan_behind_files : (dir script : List ℕ) → ListTree → List (List ℕ) → Plan Input
plan_behind_files dir script list files = do
  parts ← plan_of_parts dir
  plan_behind_parts script list files parts

-- behind a list its files, in the order of its lines, the components of the folder, and then the script
abbrev pub plan_behind_list : (dir script : List ℕ) → ListTree → Plan Input
plan_behind_list dir script list = do
  files ← read_each (names_of list.lines)
  plan_behind_files dir script list files

-- what is read behind the text of a list, unless the text is refused
abbrev pub plan_behind_text : (name dir script text : List ℕ) → Plan Input
plan_behind_text name dir script text = do
  list ← unless_refused (listed name text)
  plan_behind_list dir script list

-- the list of this name, its files, the components of the folder, and the script of that name
abbrev pub plan_of_card : (name dir script : List ℕ) → Plan Input
plan_of_card name dir script = do
  text ← read name
  plan_behind_text name dir script text

-- What was read: a list, a file of four bytes' length for each of its lines, the components that Directory says are
-- there, each of
-- such a length, and a script of such a length.
pub record IsInput (input : Input) : Type 0 where
  pub list : IsRead input.list
  pub count : length input.files ≡ (let list = input.list in length list.lines)
  pub files : AreFiles input.files
  pub short : ArePartsShort input.parts
  pub read : ArePartsRead input.parts
  pub script : length input.script < 2 ^ 32
