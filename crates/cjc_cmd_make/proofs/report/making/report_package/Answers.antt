use Rattle.std.proofs.lemmas.Result.{err_from_is_err_and}
use Rattle.cjc_cmd_make.proofs.ReportLaws.Ends.{by_list}
use Rattle.cjc_cmd_make.proofs.report.making.report_package.Goals as goal

pub returns-in_err-input-clause-refused : goal.returns-in_err-input-clause-refused
returns-in_err-input-clause-refused c =
    let p = err_from_is_err_and c.from_residual-in_err-input.result c.from_residual-in_err-input.ensures.1 in
    rw (p.1, p.2) (by_list c.args.number c.args.size _ _ c.in_ok-shelf.ensures c.in_err-input.ensures.refused)
