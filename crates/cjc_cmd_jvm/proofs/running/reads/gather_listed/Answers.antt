use Rattle.std.proofs.lemmas.Result.{err_from_is_err_and}
use Rattle.cjc_cmd_jvm.proofs.RunningLaws.Gathers.{files_end, script_end, listed_then}
use Rattle.cjc_cmd_jvm.proofs.running.reads.gather_listed.Goals as goal

pub returns-in_err-files-clause-gathers : goal.returns-in_err-files-clause-gathers
returns-in_err-files-clause-gathers g c =
    let p = err_from_is_err_and c.from_residual.result c.from_residual.ensures.1 in
    let names = rw c.items.ensures at c.in-Ok.ensures in
    let reads = rw c.items-2.ensures at c.in_err-files.ensures.gathers in
    rw (p.1, p.2) (files_end _ _ _ _ _ _ names reads)

pub returns-in_err-script-clause-gathers : goal.returns-in_err-script-clause-gathers
returns-in_err-script-clause-gathers g c =
    let p = err_from_is_err_and c.from_residual-in_err-script.result c.from_residual-in_err-script.ensures.1 in
    let names = rw c.items.ensures at c.in-Ok.ensures in
    let reads = rw c.items-2.ensures at c.in_ok-files.ensures.gathers in
    rw (p.1, p.2) (script_end _ _ _ _ _ _ _ _ names reads c.in_err-script.ensures.gathers)

pub returns-clause-gathers : goal.returns-clause-gathers
returns-clause-gathers g c =
    let names = rw c.items.ensures at c.in-Ok.ensures in
    let reads = rw c.items-2.ensures at c.in_ok-files.ensures.gathers in
    listed_then _ _ _ _ _ _ _ _ names reads c.in_ok-script.ensures.gathers
