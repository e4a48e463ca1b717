-- A joint run of packages that is done keeps its promise.
use Rattle.std.proofs.Common.{ℕ, List, Option, Some, None, IfSome}
use Rattle.cjc_cmd_link.specs.Runs.{IsRun, Runs, plan_of_link}
use Rattle.cjc_cmd_link.specs.declared.reads.GroupInput.{GroupInput}
use Rattle.cjc_cmd_verify.specs.Script.declared.report.Report.{Report}
use Rattle.cjc_cmd_link.specs.LinkSemantics.Loaded.{Member}
use Rattle.cjc_cmd_verify.specs.ScriptText.Scripted.{ScriptTree}
use Rattle.cjc_shelf.specs.Command.Answer.{Command, IsReady}
use Rattle.cjc_shelf.specs.Command.Plan.{EndsBy, complete}
use Rattle.cjc_shelf.specs.Command.Publish.{IsPrinted, IsWritten}
use Rattle.cjc_shelf.specs.Shelf.{Files, Shelved}
use Rattle.cjc_shelf.specs.Sink.{Sunk}
use Rattle.cjc_shelf.specs.declared.command.status.Todo.{Todo}
use Rattle.cjc_run.proofs.Ran.{kept_by, printed_by}
use Rattle.cjc_run.specs.Promise.{IsLinkReported, LinkReported}

-- what is read, and what is made of it
abbrev link_command : (report : List Member → ScriptTree → Report) → (name script : List ℕ) → Command
link_command report name script = record {
  Inputs = GroupInput;
  plan = plan_of_link name script;
  Makes = Runs report name script;
}

reported_by : (report : List Member → ScriptTree → Report) (name script : List ℕ) (told : Option Files)
    (input : GroupInput) (todo : Todo) (from to : Sunk) → EndsBy told (plan_of_link name script) (complete input)
    → IsRun report name script input todo → IsPrinted todo from to
    → IfSome told (λ files. IsLinkReported report name script files from to)
reported_by report name script None input todo from to read run printed = tt
reported_by report name script (Some files) input todo from to read run printed = record {
  input = input;
  read = read;
  group = run.group;
  tree = run.tree;
  ready = run.ready;
  printed = printed_by from.written to todo (report run.group run.tree) run.printed printed;
}

pub keeps_link : (report : List Member → ScriptTree → Report) (name script : List ℕ) (old new : Shelved)
    (from to : Sunk) (todo : Todo) → IsReady (link_command report name script) old.files todo
    → IsWritten old.files todo new → IsPrinted todo from to → LinkReported report name script old new from to
keeps_link report name script old new from to todo ready written printed =
    let made : IsRun report name script ready.inputs todo = ready.made in
    record {
      kept = kept_by old.files new todo (report made.group made.tree) made.printed written;
      reported = reported_by report name script old.files ready.inputs todo from to ready.read made printed;
    }
