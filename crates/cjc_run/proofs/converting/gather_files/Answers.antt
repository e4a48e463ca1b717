use Rattle.std.proofs.lemmas.Result.{err_from_is_err_and}
use Rattle.cjc_run.proofs.Listing.{files_end, files_then}
use Rattle.cjc_run.proofs.converting.gather_files.Goals as goal

pub returns-in_err-files : goal.returns-in_err-files
returns-in_err-files g c =
    let p = err_from_is_err_and c.from_residual.result c.from_residual.ensures.1 in
    let reads = rw c.items.ensures at c.in_err-files.ensures.gathers in
    rw (p.1, p.2) (files_end _ _ _ _ _ _ c.in-Ok.ensures reads)

pub returns : goal.returns
returns g c =
    let reads = rw c.items.ensures at c.in_ok-files.ensures.gathers in
    files_then _ _ _ _ _ _ _ c.in-Ok.ensures reads c.judge.ensures
