use Rattle.std.proofs.lemmas.Result.{err_from_is_err_and}
use Rattle.cjc_cmd_link.proofs.Gathers.{is_group, members_end, script_end, script_then}
use Rattle.cjc_cmd_link.proofs.reads.gather_behind.Goals as goal

pub returns-in_err-members-clause-gathers : goal.returns-in_err-members-clause-gathers
returns-in_err-members-clause-gathers g c =
    let p = err_from_is_err_and c.from_residual.result c.from_residual.ensures.1 in
    let reads = rw c.items.ensures at c.in_err-members.ensures.gathers in
    rw (p.1, p.2) (members_end _ _ _ _ _ reads)

pub returns-in_err-script-clause-gathers : goal.returns-in_err-script-clause-gathers
returns-in_err-script-clause-gathers g c =
    let p = err_from_is_err_and c.from_residual-in_err-script.result c.from_residual-in_err-script.ensures.1 in
    let reads = rw c.items.ensures at c.in_ok-members.ensures.gathers in
    rw (p.1, p.2) (script_end _ _ _ _ _ _ _ reads c.in_err-script.ensures.gathers)

pub returns-clause-gathers : goal.returns-clause-gathers
returns-clause-gathers g c =
    let reads = rw c.items.ensures at c.in_ok-members.ensures.gathers in
    script_then _ _ _ _ _ _ _ reads c.in_ok-script.ensures.gathers

pub returns-clause-input : goal.returns-clause-input
returns-clause-input g c = is_group _ _ c.in_ok-members.ensures.inputs c.in_ok-script.ensures.short
