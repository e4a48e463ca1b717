use Rattle.std.proofs.lemmas.Result.{err_from_is_err_and}
use Rattle.cjc_cmd_card.specs.declared.running.input.Input.{Input}
use Rattle.cjc_cmd_card.proofs.ShelfGathering.{gathers_then, gathers_end}
use Rattle.cjc_cmd_card.proofs.ShelfJudging.{gathers_judged}
use Rattle.cjc_cmd_card.specs.Shelf.Command.Plan.{has}
use Rattle.cjc_cmd_card.specs.Running.Package.{plan_of_input}
use Rattle.cjc_cmd_verify.specs.Verify.{Verifies}
use Rattle.cjc_cmd_verify.proofs.verifying.gather_verify.Goals as goal

pub returns-in_err-input : goal.returns-in_err-input
returns-in_err-input g c =
    let p = err_from_is_err_and c.from_residual.result c.from_residual.ensures.1 in
    rw (p.1, p.2) (gathers_end (plan_of_input c.args.name.now c.args.dir.now) (λ (input : Input). has input) Verifies _
    _ _ c.in_err-input.ensures.gathers)

pub returns : goal.returns
returns g c = gathers_then (plan_of_input c.args.name.now c.args.dir.now) (λ (input : Input). has input) Verifies _ _ _
    _ _ c.in_ok-input.ensures.gathers (gathers_judged _ Verifies _ _ c.judge.ensures)
