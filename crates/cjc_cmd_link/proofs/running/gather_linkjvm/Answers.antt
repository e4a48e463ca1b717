use Rattle.std.proofs.lemmas.Result.{err_from_is_err_and}
use Rattle.cjc_cmd_card.proofs.ShelfGathering.{gathers_end, gathers_then}
use Rattle.cjc_cmd_card.proofs.ShelfJudging.{gathers_judged}
use Rattle.cjc_cmd_card.specs.Shelf.Command.Plan.{has}
use Rattle.cjc_cmd_link.specs.Reads.{plan_of_group}
use Rattle.cjc_cmd_link.specs.Runs.{RunsByName}
use Rattle.cjc_cmd_link.specs.declared.reads.GroupInput.{GroupInput}
use Rattle.cjc_cmd_link.proofs.running.gather_linkjvm.Goals as goal

pub returns-in_err-input : goal.returns-in_err-input
returns-in_err-input g c =
    let p = err_from_is_err_and c.from_residual.result c.from_residual.ensures.1 in
    rw (p.1, p.2) (gathers_end (plan_of_group c.args.name.now c.args.script.now) (λ (input : GroupInput). has input)
    (RunsByName c.args.n c.args.name.now c.args.script.now) _ _ _ c.in_err-input.ensures.gathers)

pub returns : goal.returns
returns g c = gathers_then (plan_of_group c.args.name.now c.args.script.now) (λ (input : GroupInput). has input)
    (RunsByName c.args.n c.args.name.now c.args.script.now) _ _ _ _ _ c.in_ok-input.ensures.gathers
    (gathers_judged _ (RunsByName c.args.n c.args.name.now c.args.script.now) _ _ c.judge_names.ensures)
