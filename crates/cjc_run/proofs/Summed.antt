-- A summary that is done keeps its promise.
use Rattle.std.proofs.Common.{◌≡◌, ℕ, [], Option, Some, None, IfSome, ap, subst, ◌∙◌}
use Rattle.cjc_shelf.specs.Command.Answer.{IsReady}
use Rattle.cjc_shelf.specs.Command.Plan.{EndsBy, complete}
use Rattle.cjc_shelf.specs.Command.Publish.{IsPrinted, IsWritten, written_files}
use Rattle.cjc_shelf.specs.declared.command.status.Todo.{Todo}
use Rattle.cjc_cmd_make.specs.Report.Runs.{IsMade, plan_of_make}
use Rattle.cjc_shelf.specs.Shelf.{Files, Shelved}
use Rattle.cjc_shelf.specs.Sink.{Sunk}
use Rattle.cjc_run.specs.Command.{command_of}
use Rattle.cjc_run.specs.Promise.{MadeReported}
use Rattle.cjc_run.specs.Request.{make}

-- a plan that reads nothing gives what it has
given : (told : Option Files) (number size : ℕ) (inputs : ℕ × ℕ)
    → EndsBy told (plan_of_make number size) (complete inputs) → inputs ≡ (number, size)
given None number size inputs e = cc
given (Some files) number size inputs e = cc

kept_by : (told : Option Files) (new : Shelved) (todo : Todo) → todo.files ≡ [] → IsWritten told todo new
    → IfSome told (λ files. new.files ≡ Some files)
kept_by None new todo is written = tt
kept_by (Some files) new todo is written = written ∙ ap (λ list. Some (written_files list files)) is

pub keeps_made : (number size : ℕ) (old new : Shelved) (from to : Sunk) (todo : Todo)
    → IsReady (command_of (make number size)) old.files todo → IsWritten old.files todo new → IsPrinted todo from to
    → MadeReported number size old new from to
keeps_made number size old new from to todo ready written printed =
    let made : IsMade number size todo = subst (λ (x : ℕ × ℕ). IsMade x.0 x.1 todo) (given old.files number size
    ready.inputs ready.read) ready.made in
    let summary = made.summary in
    record {
      todo = todo;
      made = made;
      kept = kept_by old.files new todo (ap (λ (t : Todo). t.files) summary.is) written;
      printed = printed;
    }
