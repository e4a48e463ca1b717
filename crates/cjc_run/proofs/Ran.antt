-- A run of class files that is done keeps its promise.
use Rattle.std.proofs.Common.{◌≡◌, ℕ, List, [], ◌∷◌, ◌++◌, Option, Some, None, IfSome, ap, ◌∙◌}
use Rattle.std.proofs.lemmas.List.{append-nil}
use Rattle.cjc_shelf.specs.Command.Answer.{IsReady}
use Rattle.cjc_shelf.specs.Command.Plan.{EndsBy, complete}
use Rattle.cjc_shelf.specs.Command.Publish.{IsPrinted, IsWritten, text_of, written_files}
use Rattle.cjc_shelf.specs.declared.command.status.Todo.{Todo}
use Rattle.cjc_cmd_verify.specs.CmdJvm.Runs.{IsRun, plan_of_jvm}
use Rattle.cjc_cmd_verify.specs.CmdJvm.declared.running.input.Input.{Input}
use Rattle.cjc_cmd_verify.specs.Script.declared.report.Report.{Report}
use Rattle.cjc_cmd_verify.specs.ScriptText.Printed.{report_text}
use Rattle.cjc_shelf.specs.Shelf.{Files, Shelved}
use Rattle.cjc_shelf.specs.Sink.{Sunk}
use Rattle.cjc_run.specs.Command.{command_of}
use Rattle.cjc_run.specs.Promise.{IsReported, Reported}
use Rattle.cjc_run.specs.Request.{jvm}

-- what is written and printed
abbrev pub report_todo : Report → Todo
report_todo report = record { files = []; lines = report_text report ∷ [] }

pub kept_by : (told : Option Files) (new : Shelved) (todo : Todo) (report : Report) → todo ≡ report_todo report
    → IsWritten told todo new → IfSome told (λ files. new.files ≡ Some files)
kept_by None new todo report is written = tt
kept_by (Some files) new todo report is written = written ∙ ap (λ (t : Todo). Some (written_files t.files files)) is

pub printed_by : (before : Option (List ℕ)) (to : Sunk) (todo : Todo) (report : Report) → todo ≡ report_todo report
    → IfSome before (λ text. to.written ≡ Some (text ++ text_of todo))
    → IfSome before (λ text. to.written ≡ Some (text ++ report_text report))
printed_by None to todo report is printed = tt
printed_by (Some text) to todo report is printed = printed ∙ ap (λ (t : Todo). Some (text ++ text_of t)) is
    ∙ ap (λ (line : List ℕ). Some (text ++ line)) (append-nil (report_text report))

reported_by : (name script : List ℕ) (n : ℕ) (told : Option Files) (input : Input) (todo : Todo) (from to : Sunk)
    → EndsBy told (plan_of_jvm name script) (complete input) → IsRun n script input todo → IsPrinted todo from to
    → IfSome told (λ files. IsReported name script n files from to)
reported_by name script n None input todo from to read run printed = tt
reported_by name script n (Some files) input todo from to read run printed = record {
  input = input;
  read = read;
  ready = run.ready;
  is_ready = run.is_ready;
  report = run.report;
  is_report = run.is_report;
  printed = printed_by from.written to todo run.report run.printed printed;
}

pub keeps_run : (name script : List ℕ) (n : ℕ) (old new : Shelved) (from to : Sunk) (todo : Todo)
    → IsReady (command_of (jvm name script n)) old.files todo → IsWritten old.files todo new → IsPrinted todo from to
    → Reported name script n old new from to
keeps_run name script n old new from to todo ready written printed =
    let made : IsRun n script ready.inputs todo = ready.made in
    record {
      kept = kept_by old.files new todo made.report made.printed written;
      reported = reported_by name script n old.files ready.inputs todo from to ready.read made printed;
    }
