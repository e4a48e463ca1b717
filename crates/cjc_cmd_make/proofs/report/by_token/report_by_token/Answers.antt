use Rattle.std.proofs.lemmas.Result.{err_from_is_err_and}
use Rattle.cjc_cmd_make.proofs.ReportLaws.Ends.{reads_refused, rules_refused}
use Rattle.cjc_cmd_card.specs.Shelf.Memory.{clean_shelved, files_of}
use Rattle.cjc_cmd_make.proofs.report.by_token.report_by_token.Goals as goal

pub returns-clause-report : goal.returns-clause-report
returns-clause-report c = record {
  input = c.in_ok-input.input;
  read = c.in_ok-input.ensures.read;
  reported = c.in_ok-report.ensures.report;
}

pub returns-in_err-input-clause-refused : goal.returns-in_err-input-clause-refused
returns-in_err-input-clause-refused c =
    let e = err_from_is_err_and c.from_residual.result c.from_residual.ensures.1 in
    rw (e.1, e.2) (reads_refused (files_of (clean_shelved c.args.shelf.now)) _ c.in_err-input.ensures.refused)

pub returns-in_err-report-clause-refused : goal.returns-in_err-report-clause-refused
returns-in_err-report-clause-refused c =
    let e = err_from_is_err_and c.from_residual-in_err-report.result c.from_residual-in_err-report.ensures.1 in
    rw (e.1, e.2) (rules_refused (files_of (clean_shelved c.args.shelf.now)) c.in_ok-input.input _
    c.in_ok-input.ensures.read c.in_err-report.ensures.refused)
