-- A test of types that is done keeps its promise.
use Rattle.std.proofs.Common.{ℕ, List, Option, Some, None, IfSome}
use Rattle.std.specs.Prelude.{Ok}
use Rattle.cjc_cmd_verify.specs.CmdCard.declared.running.input.Input.{Input}
use Rattle.cjc_cmd_verify.specs.Verify.{Verifies, plan_of_verify}
use Rattle.cjc_run.proofs.Tested.{kept_by, printed_by}
use Rattle.cjc_run.specs.Command.{command_of}
use Rattle.cjc_run.specs.Promise.{IsTyped, Verified}
use Rattle.cjc_run.specs.Request.{verify}
use Rattle.cjc_shelf.specs.Command.Answer.{IsReady}
use Rattle.cjc_shelf.specs.Command.Plan.{EndsBy, complete}
use Rattle.cjc_shelf.specs.Command.Publish.{IsPrinted, IsWritten}
use Rattle.cjc_shelf.specs.Shelf.{Files, Shelved}
use Rattle.cjc_shelf.specs.Sink.{Sunk}
use Rattle.cjc_shelf.specs.declared.command.status.Todo.{Todo}

typed_by : (name dir : List ℕ) (told : Option Files) (input : Input) (todo : Todo)
    → EndsBy told (plan_of_verify name dir) (complete input) → Verifies input (Ok todo) → IfSome told (IsTyped name dir)
typed_by name dir None input todo read made = tt
typed_by name dir (Some files) input todo read made = record { input = input; read = read; typed = made.0 }

pub keeps_typed : (name dir : List ℕ) (old new : Shelved) (from to : Sunk) (todo : Todo)
    → IsReady (command_of (verify name dir)) old.files todo → IsWritten old.files todo new → IsPrinted todo from to
    → Verified name dir old new from to
keeps_typed name dir old new from to todo ready written printed = record {
  kept = kept_by old.files new todo ready.made.1 written;
  typed = typed_by name dir old.files ready.inputs todo ready.read ready.made;
  printed = printed_by from.written to todo ready.made.1 printed;
}
