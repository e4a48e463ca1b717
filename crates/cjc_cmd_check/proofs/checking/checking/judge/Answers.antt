use Rattle.std.proofs.Common.{Err, ◌∙◌, sym, subst}
use Rattle.cjc_shelf.specs.Command.Gather.{Judged}
use Rattle.cjc_shelf.specs.declared.command.status.Status.{Status}
use Rattle.cjc_shelf.specs.declared.command.status.Todo.{Todo}
use Rattle.cjc_cmd_check.specs.Check.{Checks}
use Rattle.cjc_cmd_check.proofs.CheckingLaws.Tested.{judged_fault}
use Rattle.cjc_cmd_check.proofs.checking.checking.judge.Goals as goal

pub returns-in-Err : goal.returns-in-Err
returns-in-Err c =
    let P : Status → Type 0 = λ s. Judged {T = Todo} (Checks c.args.folder.now) (Err s) in
    subst P (sym c.from.ensures) (judged_fault c.args.folder.now c.in-Err.fault c.in-Err.ensures.refused)
