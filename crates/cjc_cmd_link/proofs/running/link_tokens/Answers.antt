use Rattle.std.proofs.lemmas.Result.{err_from_is_err_and}
use Rattle.cjc_cmd_link.proofs.Answered.{cycle_fault, has_run}
use Rattle.cjc_cmd_link.specs.Runs.{report_by_token}
use Rattle.cjc_cmd_link.proofs.running.link_tokens.Goals as goal

pub returns-in_err-group-clause-refused : goal.returns-in_err-group-clause-refused
returns-in_err-group-clause-refused c =
    let e = err_from_is_err_and c.from_residual.result c.from_residual.ensures.1 in
    rw (e.1, e.2) (c.in_err-group.ensures.refused c.args.name.now)

pub report_tokens-requires-clause-group : goal.report_tokens-requires-clause-group
report_tokens-requires-clause-group c = record {
  inputs = c.args.input.now.members;
  images = c.in_ok-group.group.images;
  are_inputs = c.requires.members;
  are_made = c.in_ok-group.ensures.made;
}

pub returns-in_err-report-clause-refused : goal.returns-in_err-report-clause-refused
returns-in_err-report-clause-refused c =
    let e = err_from_is_err_and c.from_residual-in_err-report.result c.from_residual-in_err-report.ensures.1 in
    rw (e.1, e.2) (cycle_fault c.args.input.now c.args.name.now c.args.script.now c.in_ok-group.group.members
    c.in_ok-group.group.images c.in_ok-group.ensures.made c.in_ok-group.ensures.passed c.in_ok-group.ensures.agreed
    c.in_ok-group.ensures.known _ c.in_err-report.ensures.refused)

pub report_tokens-requires-clause-made : goal.report_tokens-requires-clause-made
report_tokens-requires-clause-made c = (c.args.input.now.members, c.in_ok-group.ensures.made)

pub returns-clause-done : goal.returns-clause-done
returns-clause-done c =
    let group = c.in_ok-group.group in
    let ready = c.in_ok-group.ensures in
    has_run c.args.input.now c.args.name.now c.args.script.now group.members group.images ready.made ready.passed
    ready.agreed ready.known (λ members tree. report_by_token members tree c.args.n) group.script c.in_ok-report.report _
    c.in_ok-report.ensures.free ready.script
    (λ members tested files images. c.in_ok-report.ensures.report c.args.input.now.members members ready.made tested
    files images) c.in_ok-todo.ensures
