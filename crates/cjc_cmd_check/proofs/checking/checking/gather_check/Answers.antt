use Rattle.cjc_shelf.specs.Command.Plan.{has}
use Rattle.cjc_shelf.proofs.CommandLaws.Gathering.{gathers_then, gathers_end}
use Rattle.cjc_shelf.proofs.CommandLaws.Judging.{gathers_judged}
use Rattle.std.proofs.lemmas.Result.{err_from_is_err_and}
use Rattle.cjc_cmd_check.specs.Folder.Reads.{plan_of_folder}
use Rattle.cjc_cmd_check.specs.declared.folder.folder.Folder.{Folder}
use Rattle.cjc_cmd_check.specs.Check.{Checks}
use Rattle.cjc_cmd_check.proofs.checking.checking.gather_check.Goals as goal

pub returns-in_err-folder : goal.returns-in_err-folder
returns-in_err-folder g c =
    let p = err_from_is_err_and c.from_residual.result c.from_residual.ensures.1 in
    rw (p.1, p.2) (gathers_end (plan_of_folder c.args.name.now c.args.dir.now) (λ (f : Folder). has f) Checks _ _ _
    c.in_err-folder.ensures.gathers)

pub returns : goal.returns
returns g c = gathers_then (plan_of_folder c.args.name.now c.args.dir.now) (λ (f : Folder). has f) Checks _ _ _ _ _
    c.in_ok-folder.ensures.gathers (gathers_judged _ Checks _ _ c.judge.ensures)
