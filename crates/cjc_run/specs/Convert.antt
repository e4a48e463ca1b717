-- What `convert LIST DIR` reads, and what it writes and prints.
use Rattle.std.specs.Prelude.{◌≡◌, ℕ, List, map, Result, Ok, Err}
use Rattle.cjc_shelf.specs.Bytes.declared.fault.Refusal.{Refusal}
use Rattle.cjc_cmd_compat.specs.List.Listed.{ListTree, listed}
use Rattle.cjc_cmd_make.specs.CmdConvert.Conversion.Conversion.{Conversion, IsConverted, IsRefused}
use Rattle.cjc_cmd_make.specs.CmdConvert.Conversion.Promise.{KeepsPromise}
use Rattle.cjc_shelf.specs.Command.Plan.{Plan, has, ◌>>=◌, read, read_each, unless_refused}
use Rattle.cjc_shelf.specs.declared.command.status.Todo.{Todo}
use Rattle.cjc_cmd_make.specs.CmdConvert.Publication.{files_made, publication}

-- ---- what is read

-- the names of the files of a list, in the order of its lines
abbrev pub names_of : ListTree → List (List ℕ)
names_of list = map (λ line. line.name) list.lines

-- the files of a list, in the order of its lines
abbrev pub plan_of_files : ListTree → Plan (ListTree × List (List ℕ))
plan_of_files list = do
  files ← read_each (names_of list)
  has (list, files)

-- what the text of a list of this name asks for
abbrev pub plan_of_list : List ℕ → List ℕ → Plan (ListTree × List (List ℕ))
plan_of_list name text = do
  list ← unless_refused (listed name text)
  plan_of_files list

-- the list of this name, and then its files
abbrev pub plan_of_convert : List ℕ → Plan (ListTree × List (List ℕ))
plan_of_convert name = do
  text ← read name
  plan_of_list name text

-- What is made of the list and its files, with what the conversion promises of it; or which rule they break first.
abbrev pub Makes : List ℕ → ListTree × List (List ℕ) → Result Todo Refusal → Type 0
Makes dir input (Ok todo) =
    (made : Conversion) × IsConverted input.0 input.1 made × KeepsPromise input.0 input.1 made
    × (todo ≡ publication dir (files_made input.0.package made.caps made.export))
Makes dir input (Err r) = IsRefused input.0 input.1 r
