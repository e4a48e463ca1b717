-- A comparison of two versions that is done keeps its promise.
use Rattle.std.proofs.Common.{ℕ, List, Option, Some, None, IfSome, sym, subst}
use Rattle.std.specs.Prelude.{Ok}
use Rattle.std.specs.FinMap.{get}
use Rattle.cjc_cmd_compat.specs.Compat.{AreCompatible, Compares, plan_of_compat, plan_of_new}
use Rattle.cjc_shelf.specs.Command.Answer.{IsReady}
use Rattle.cjc_shelf.specs.Command.Plan.{EndsBy, complete, verdict}
use Rattle.cjc_shelf.specs.Command.Publish.{IsPrinted, IsWritten}
use Rattle.cjc_shelf.specs.declared.command.status.Todo.{Todo}
use Rattle.cjc_shelf.specs.Shelf.{Files, Shelved}
use Rattle.cjc_shelf.specs.Sink.{Sunk}
use Rattle.cjc_run.specs.Command.{command_of}
use Rattle.cjc_run.specs.Promise.{Compared, IsCompared}
use Rattle.cjc_run.specs.Request.{compat}
use Rattle.cjc_run.proofs.Got.{at_got, same_complete}
use Rattle.cjc_run.proofs.Tested.{kept_by, printed_by}

compared_by : (old_name new_name : List ℕ) (told : Option Files) (x : List ℕ × List ℕ) (todo : Todo)
    → EndsBy told (plan_of_compat old_name new_name) (complete x) → Compares old_name new_name x (Ok todo)
    → IfSome told (IsCompared old_name new_name)
compared_by old_name new_name None x todo read made = tt
compared_by old_name new_name (Some files) x todo read made =
    let one = at_got old_name (λ bytes. verdict files (plan_of_new new_name bytes)) (get files old_name) x read in
    let two = at_got new_name (λ more. complete (one.0, more)) (get files new_name) x one.2 in
    record {
      old_bytes = one.0;
      new_bytes = two.0;
      old_is = one.1;
      new_is = two.1;
      compatible = subst (AreCompatible new_name) (sym (same_complete (one.0, two.0) x two.2)) made.1;
    }

pub keeps_compared : (old_name new_name : List ℕ) (old new : Shelved) (from to : Sunk) (todo : Todo)
    → IsReady (command_of (compat old_name new_name)) old.files todo → IsWritten old.files todo new
    → IsPrinted todo from to → Compared old_name new_name old new from to
keeps_compared old_name new_name old new from to todo ready written printed = record {
  kept = kept_by old.files new todo ready.made.2 written;
  compared = compared_by old_name new_name old.files ready.inputs todo ready.read ready.made;
  printed = printed_by from.written to todo ready.made.2 printed;
}
