use Rattle.cjc_shelf.specs.Command.Plan.{read}
use Rattle.cjc_shelf.proofs.CommandLaws.Gathering.{gathers_then, gathers_end}
use Rattle.std.proofs.lemmas.Result.{err_from_is_err_and}
use Rattle.cjc_run.specs.Convert.{plan_of_list, Makes}
use Rattle.cjc_run.proofs.converting.gather_convert.Goals as goal

pub returns-in_err-text : goal.returns-in_err-text
returns-in_err-text g c =
    let p = err_from_is_err_and c.from_residual.result c.from_residual.ensures.1 in
    rw (p.1, p.2) (gathers_end (read c.args.name.now) (plan_of_list c.args.name.now) (Makes c.args.dir.now) _ _ _
    c.in_err-text.ensures.gathers)

pub returns : goal.returns
returns g c =
    let rest = rw c.items.ensures at c.gather_listed.ensures in
    gathers_then (read c.args.name.now) (plan_of_list c.args.name.now) (Makes c.args.dir.now) _ _ _ _ _
    c.in_ok-text.ensures.gathers rest
