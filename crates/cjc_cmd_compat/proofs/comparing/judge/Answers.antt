use Rattle.std.proofs.Common.{Err, List, ℕ, sym, subst}
use Rattle.cjc_cmd_check.specs.LowerShelf.Command.Gather.{Judged}
use Rattle.cjc_cmd_check.specs.LowerShelf.declared.command.status.Status.{Status}
use Rattle.cjc_cmd_check.specs.LowerShelf.declared.command.status.Todo.{Todo}
use Rattle.cjc_cmd_compat.specs.Compat.{Compares}
use Rattle.cjc_cmd_compat.proofs.Tested.{judged_fault}
use Rattle.cjc_cmd_compat.proofs.comparing.judge.Goals as goal

pub returns-in-Err : goal.returns-in-Err
returns-in-Err c =
    let files : List ℕ × List ℕ = (c.args.old_bytes.now, c.args.new_bytes.now) in
    let P : Status → Type 0 = λ s. Judged {T = Todo} (Compares c.args.old.now c.args.new.now files) (Err s) in
    subst P (sym c.from.ensures) (judged_fault c.args.old.now c.args.new.now files c.in-Err.fault
    c.in-Err.ensures.refused)
