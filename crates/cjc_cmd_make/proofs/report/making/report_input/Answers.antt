use Rattle.std.proofs.lemmas.Result.{err_from_is_err_and}
use Rattle.cjc_cmd_make.proofs.ReportLaws.Ends.{by_package, by_runs}
use Rattle.cjc_cmd_make.proofs.report.making.report_input.Goals as goal

pub returns-in_err-made-clause-refused : goal.returns-in_err-made-clause-refused
returns-in_err-made-clause-refused c =
    let p = err_from_is_err_and c.from_residual.result c.from_residual.ensures.1 in
    rw (p.1, p.2) (by_package c.args.number c.args.size c.args.input.now _ c.requires.read
    c.in_err-made.ensures.refused)

pub returns-in_err-todo-clause-refused : goal.returns-in_err-todo-clause-refused
returns-in_err-todo-clause-refused c =
    let p = err_from_is_err_and c.from_residual-in_err-todo.result c.from_residual-in_err-todo.ensures.1 in
    rw (p.1, p.2) (by_runs c.args.number c.args.size _ c.args.input.now c.in_ok-made.made _ c.requires.shelf
    c.requires.read c.in_ok-made.ensures.converted c.in_err-todo.ensures.refused)
