use Rattle.std.proofs.lemmas.Result.{err_from_is_err_and}
use Rattle.cjc_cmd_card.proofs.ReportLaws.Free.{pair_fault}
use Rattle.cjc_cmd_card.proofs.report.running.run_ready.Goals as goal

pub returns-in_err-report-clause-refused : goal.returns-in_err-report-clause-refused
returns-in_err-report-clause-refused c =
    let e = err_from_is_err_and c.from_residual.result c.from_residual.ensures.1 in
    rw (e.1, e.2) (pair_fault c.consistent_where_unbroken.ensures.unbroken c.args.input.now c.args.script.now
    c.args.ready.now c.requires _ c.in_err-report.ensures.refused)
