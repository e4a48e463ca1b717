use Rattle.std.proofs.lemmas.Result.{err_from_is_err_and}
use Rattle.cjc_cmd_link.proofs.running.report_tokens.Goals as goal

pub returns-in_err-joint-clause-refused : goal.returns-in_err-joint-clause-refused
returns-in_err-joint-clause-refused c =
    let e = err_from_is_err_and c.from_residual-in_err-joint.result c.from_residual-in_err-joint.ensures.1 in
    let cycle = rw c.items-members.ensures at c.in_err-joint.ensures.refused in
    rw (e.1, e.2) cycle
