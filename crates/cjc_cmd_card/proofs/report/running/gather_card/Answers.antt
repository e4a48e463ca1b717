use Rattle.cjc_cmd_jvm.proofs.ShelfGathering.{gathers_then, gathers_end}
use Rattle.cjc_cmd_jvm.proofs.ShelfJudging.{gathers_judged}
use Rattle.cjc_cmd_jvm.specs.LowerShelf.Command.Plan.{has}
use Rattle.std.proofs.lemmas.Result.{err_from_is_err_and}
use Rattle.cjc_cmd_card.specs.Running.Reads.{plan_of_card}
use Rattle.cjc_cmd_card.specs.declared.running.input.Input.{Input}
use Rattle.cjc_cmd_card.specs.Report.Runs.{Runs}
use Rattle.cjc_cmd_card.proofs.report.running.gather_card.Goals as goal

pub returns-in_err-input : goal.returns-in_err-input
returns-in_err-input g c =
    let p = err_from_is_err_and c.from_residual.result c.from_residual.ensures.1 in
    rw (p.1, p.2) (gathers_end (plan_of_card c.args.name.now c.args.dir.now c.args.script.now) (λ (input : Input). has
    input) (Runs c.args.n c.args.script.now) _ _ _ c.in_err-input.ensures.gathers)

pub returns : goal.returns
returns g c = gathers_then (plan_of_card c.args.name.now c.args.dir.now c.args.script.now) (λ (input : Input). has
    input) (Runs c.args.n c.args.script.now) _ _ _ _ _ c.in_ok-input.ensures.gathers
    (gathers_judged _ (Runs c.args.n c.args.script.now) _ _ c.judge.ensures)
