use Rattle.std.proofs.lemmas.Result.{err_from_is_err_and}
use Rattle.cjc_cmd_card.proofs.RunningLaws.Made.{is_ready}
use Rattle.cjc_cmd_card.proofs.running.ready.make_ready.Goals as goal

pub returns-in_err-cap-clause-refused : goal.returns-in_err-cap-clause-refused
returns-in_err-cap-clause-refused c =
    let p = err_from_is_err_and c.from_residual.result c.from_residual.ensures.1 in
    rw (p.1, p.2) c.in_err-cap.ensures.refused

pub returns-in_err-script-clause-refused : goal.returns-in_err-script-clause-refused
returns-in_err-script-clause-refused c =
    let p = err_from_is_err_and c.from_residual-in_err-script.result c.from_residual-in_err-script.ensures.1 in
    rw (p.1, p.2) c.in_err-script.ensures.refused

pub returns-in_err-judged-clause-refused : goal.returns-in_err-judged-clause-refused
returns-in_err-judged-clause-refused c =
    let p = err_from_is_err_and c.from_residual-in_err-judged.result c.from_residual-in_err-judged.ensures.1 in
    rw (p.1, p.2) c.in_err-judged.ensures.refused

pub returns-in_err-checked-clause-refused : goal.returns-in_err-checked-clause-refused
returns-in_err-checked-clause-refused c =
    let p = err_from_is_err_and c.from_residual-in_err-checked.result c.from_residual-in_err-checked.ensures.1 in
    rw (p.1, p.2) c.in_err-checked.ensures.refused

pub returns-clause-ready : goal.returns-clause-ready
returns-clause-ready c =
    is_ready c.args.input.now c.args.name.now c.in_ok-judged.judged c.in_ok-cap.cap c.in_ok-checked.checked
    c.in_ok-script.script c.requires.short c.in_ok-judged.ensures.judged c.in_ok-cap.ensures.unbroken
    c.in_ok-cap.ensures.found c.in_ok-checked.ensures.same c.in_ok-checked.ensures.consistent
    c.in_ok-script.ensures.found
