-- What is read where class files are to be run: a list, its files, and a script.
use Rattle.std.specs.Prelude.{◌≡◌, ◌<◌, ◌^◌, ℕ, List, length, map}
use Rattle.cjc_shelf.specs.Bytes.declared.settings.FileLine.{FileLine}
use Rattle.cjc_shelf.specs.Command.Plan.{Plan, has, ◌>>=◌, read, read_each, unless_refused}
use Rattle.cjc_judge.specs.Spelt.{IsRead, AreFiles}
use Rattle.cjc_script_text.specs.List.Listed.{ListTree, listed}
use Rattle.cjc_cmd_jvm.specs.declared.running.input.Input.{Input}

-- the names of the files of a list, in the order of its lines
abbrev pub names_of : List FileLine → List (List ℕ)
names_of lines = map (λ (line : FileLine). line.name) lines

-- behind the files of a list, the script
abbrev pub plan_behind_files : (script : List ℕ) → ListTree → List (List ℕ) → Plan Input
plan_behind_files script list files = do
  text ← read script
  has (record { list = list; files = files; script = text })

-- behind a list its files, in the order of its lines, and then the script
abbrev pub plan_behind_list : (script : List ℕ) → ListTree → Plan Input
plan_behind_list script list = do
  files ← read_each (names_of list.lines)
  plan_behind_files script list files

-- what is read behind the text of a list, unless the text is refused
abbrev pub plan_behind_text : (name script text : List ℕ) → Plan Input
plan_behind_text name script text = do
  list ← unless_refused (listed name text)
  plan_behind_list script list

-- the list of this name, its files, and the script of that name
abbrev pub plan_of_run : (name script : List ℕ) → Plan Input
plan_of_run name script = do
  text ← read name
  plan_behind_text name script text

-- What was read: a list, a file of four bytes' length for each of its lines, and a script of such a length.
pub record IsInput (input : Input) : Type 0 where
  pub list : IsRead input.list
  pub count : length input.files ≡ (let list = input.list in length list.lines)
  pub files : AreFiles input.files
  pub script : length input.script < 2 ^ 32
