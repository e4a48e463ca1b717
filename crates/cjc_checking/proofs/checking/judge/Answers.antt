use Rattle.std.proofs.Common.{Err, ◌∙◌, sym, subst}
use Rattle.cjc_command.specs.Gather.{Judged}
use Rattle.cjc_command.specs.declared.status.Status.{Status}
use Rattle.cjc_command.specs.declared.status.Todo.{Todo}
use Rattle.cjc_checking.specs.Check.{Checks}
use Rattle.cjc_checking.proofs.Tested.{judged_fault}
use Rattle.cjc_checking.proofs.checking.judge.Goals as goal

pub returns-in-Err : goal.returns-in-Err
returns-in-Err c =
    let P : Status → Type 0 = λ s. Judged {T = Todo} (Checks c.args.folder.now) (Err s) in
    subst P (sym c.from.ensures) (judged_fault c.args.folder.now c.in-Err.fault c.in-Err.ensures.refused)
