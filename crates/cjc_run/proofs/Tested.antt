-- A test that is done keeps its promise.
use Rattle.std.proofs.Common.{◌≡◌, ℕ, List, [], ◌∷◌, ◌++◌, Option, Some, None, IfSome, ap, ◌∙◌}
use Rattle.cjc_cmd_compat.specs.CmdCheck.Check.{Checks, ok_line, plan_of_check}
use Rattle.cjc_shelf.specs.Command.Answer.{IsReady}
use Rattle.cjc_shelf.specs.Command.Plan.{EndsBy, complete}
use Rattle.cjc_shelf.specs.Command.Publish.{IsPrinted, IsWritten, text_of, written_files}
use Rattle.cjc_shelf.specs.declared.command.status.Todo.{Todo}
use Rattle.cjc_cmd_compat.specs.CmdCheck.declared.folder.folder.Folder.{Folder}
use Rattle.cjc_shelf.specs.Shelf.{Files, Shelved}
use Rattle.cjc_shelf.specs.Sink.{Sunk}
use Rattle.std.specs.Prelude.{Ok}
use Rattle.cjc_run.specs.Command.{command_of}
use Rattle.cjc_run.specs.Promise.{Checked, IsTested}
use Rattle.cjc_run.specs.Request.{check}

-- what is written and printed
abbrev ok_todo : Todo
ok_todo = record { files = []; lines = ok_line ∷ [] }

pub kept_by : (told : Option Files) (new : Shelved) (todo : Todo) → todo ≡ ok_todo → IsWritten told todo new
    → IfSome told (λ files. new.files ≡ Some files)
kept_by None new todo is written = tt
kept_by (Some files) new todo is written = written ∙ ap (λ (t : Todo). Some (written_files t.files files)) is

tested_by : (name dir : List ℕ) (told : Option Files) (folder : Folder) (todo : Todo)
    → EndsBy told (plan_of_check name dir) (complete folder) → Checks folder (Ok todo) → IfSome told (IsTested name dir)
tested_by name dir None folder todo read made = tt
tested_by name dir (Some files) folder todo read made = record {
  folder = folder;
  read = read;
  unbroken = made.0;
  consistent = made.1;
}

pub printed_by : (before : Option (List ℕ)) (to : Sunk) (todo : Todo) → todo ≡ ok_todo
    → IfSome before (λ text. to.written ≡ Some (text ++ text_of todo))
    → IfSome before (λ text. to.written ≡ Some (text ++ ok_line))
printed_by None to todo is printed = tt
printed_by (Some text) to todo is printed = printed ∙ ap (λ (t : Todo). Some (text ++ text_of t)) is

pub keeps_tested : (name dir : List ℕ) (old new : Shelved) (from to : Sunk) (todo : Todo)
    → IsReady (command_of (check name dir)) old.files todo → IsWritten old.files todo new → IsPrinted todo from to
    → Checked name dir old new from to
keeps_tested name dir old new from to todo ready written printed = record {
  kept = kept_by old.files new todo ready.made.2 written;
  tested = tested_by name dir old.files ready.inputs todo ready.read ready.made;
  printed = printed_by from.written to todo ready.made.2 printed;
}
