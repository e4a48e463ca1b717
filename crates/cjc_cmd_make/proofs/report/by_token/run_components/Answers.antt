use Rattle.std.proofs.lemmas.Result.{err_from_is_err_and}
use Rattle.cjc_cmd_card.proofs.ReportLaws.Free.{first_fault, pair_fault}
use Rattle.cjc_cmd_make.specs.Report.Package.{script_name}
use Rattle.cjc_cmd_make.proofs.report.by_token.run_components.Goals as goal

pub returns-in_err-ready-clause-refused : goal.returns-in_err-ready-clause-refused
returns-in_err-ready-clause-refused c =
    let e = err_from_is_err_and c.from_residual.result c.from_residual.ensures.1 in
    rw (e.1, e.2) (first_fault c.args.input.now script_name _ c.in_err-ready.ensures.refused)

pub returns-in_err-report-clause-refused : goal.returns-in_err-report-clause-refused
returns-in_err-report-clause-refused c =
    let e = err_from_is_err_and c.from_residual-in_err-report.result c.from_residual-in_err-report.ensures.1 in
    rw (e.1, e.2) (pair_fault c.consistent_where_unbroken.ensures.unbroken c.args.input.now script_name
    c.in_ok-ready.ready c.in_ok-ready.ensures.ready _ c.in_err-report.ensures.refused)
