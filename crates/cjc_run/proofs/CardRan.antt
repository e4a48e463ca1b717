-- A run of components that is done keeps its promise.
use Rattle.std.proofs.Common.{ℕ, List, Option, Some, None, IfSome}
use Rattle.cjc_shelf.specs.Command.Answer.{IsReady}
use Rattle.cjc_shelf.specs.Command.Plan.{EndsBy, complete}
use Rattle.cjc_shelf.specs.Command.Publish.{IsPrinted, IsWritten}
use Rattle.cjc_shelf.specs.declared.command.status.Todo.{Todo}
use Rattle.cjc_cmd_verify.specs.CmdCard.Report.Runs.{IsRun, plan_of_report}
use Rattle.cjc_cmd_verify.specs.CmdCard.declared.running.input.Input.{Input}
use Rattle.cjc_shelf.specs.Shelf.{Files, Shelved}
use Rattle.cjc_shelf.specs.Sink.{Sunk}
use Rattle.cjc_run.specs.Command.{command_of}
use Rattle.cjc_run.specs.Promise.{IsCardReported, CardReported}
use Rattle.cjc_run.specs.Request.{card}
use Rattle.cjc_run.proofs.Ran.{kept_by, printed_by}

reported_by : (name dir script : List ℕ) (n : ℕ) (told : Option Files) (input : Input) (todo : Todo) (from to : Sunk)
    → EndsBy told (plan_of_report name dir script) (complete input) → IsRun n script input todo → IsPrinted todo from to
    → IfSome told (λ files. IsCardReported name dir script n files from to)
reported_by name dir script n None input todo from to read run printed = tt
reported_by name dir script n (Some files) input todo from to read run printed = record {
  input = input;
  read = read;
  ready = run.ready;
  is_ready = run.is_ready;
  report = run.report;
  is_report = run.is_report;
  printed = printed_by from.written to todo run.report run.printed printed;
}

pub keeps_card : (name dir script : List ℕ) (n : ℕ) (old new : Shelved) (from to : Sunk) (todo : Todo)
    → IsReady (command_of (card name dir script n)) old.files todo → IsWritten old.files todo new
    → IsPrinted todo from to
    → CardReported name dir script n old new from to
keeps_card name dir script n old new from to todo ready written printed =
    let made : IsRun n script ready.inputs todo = ready.made in
    record {
      kept = kept_by old.files new todo made.report made.printed written;
      reported = reported_by name dir script n old.files ready.inputs todo from to ready.read made printed;
    }
