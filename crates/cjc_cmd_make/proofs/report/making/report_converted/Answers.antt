use Rattle.std.proofs.Common.{[], ap, subst, ◌∙◌}
use Rattle.std.proofs.lemmas.Result.{err_from_is_err_and}
use Rattle.cjc_cmd_card.specs.Shelf.Memory.{clean_shelved, files_of}
use Rattle.cjc_cmd_card.specs.Shelf.declared.command.status.Todo.{Todo}
use Rattle.cjc_cmd_make.proofs.ReportLaws.Ends.{name_refused, token_refused}
use Rattle.cjc_cmd_make.specs.Report.Runs.{IsReportByToken}
use Rattle.cjc_cmd_make.specs.Report.Summary.{size_item, summary_lines}
use Rattle.cjc_cmd_make.proofs.report.making.report_converted.Goals as goal

pub returns-clause-made : goal.returns-clause-made
returns-clause-made c =
    let put = rw c.items-2.ensures at c.in_ok-add_converted.ensures in
    let size = c.size_item-method_bytes.ensures ∙ ap size_item c.items.ensures in
    record {
      by_name = c.in_ok-by_name.by_name;
      is_by_name = c.in_ok-by_name.ensures.report;
      by_token = c.in_ok-by_token.by_token;
      is_by_token = subst (λ files. IsReportByToken files c.in_ok-by_token.by_token) put
          c.in_ok-by_token.ensures.report;
      is = c.in_ok-summary.ensures ∙ ap (λ n. let todo : Todo = record {
        files = [];
        lines = summary_lines c.args.size n c.in_ok-by_name.by_name c.in_ok-by_token.by_token;
      } in todo) size;
    }

pub returns-in_err-by_name-clause-refused : goal.returns-in_err-by_name-clause-refused
returns-in_err-by_name-clause-refused c =
    let e = err_from_is_err_and c.from_residual-in_err-by_name.result c.from_residual-in_err-by_name.ensures.1 in
    rw (e.1, e.2) (name_refused (files_of (clean_shelved c.args.shelf.now)) c.args.input.now c.args.made _
    c.in_err-by_name.ensures.refused)

pub returns-in_err-by_token-clause-refused : goal.returns-in_err-by_token-clause-refused
returns-in_err-by_token-clause-refused c =
    let e = err_from_is_err_and c.from_residual-in_err-by_token.result c.from_residual-in_err-by_token.ensures.1 in
    let put = rw c.items-2.ensures at c.in_ok-add_converted.ensures in
    rw (e.1, e.2) (token_refused (files_of (clean_shelved c.args.shelf.now)) _ c.args.input.now c.args.made
    c.in_ok-by_name.by_name _ put c.in_ok-by_name.ensures.report c.in_err-by_token.ensures.refused)
