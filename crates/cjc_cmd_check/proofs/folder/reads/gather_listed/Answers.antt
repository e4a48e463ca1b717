use Rattle.std.proofs.lemmas.Result.{err_from_is_err_and}
use Rattle.cjc_cmd_check.proofs.FolderLaws.Gathers.{exports_end, parts_end, listed_then}
use Rattle.cjc_cmd_check.proofs.folder.reads.gather_listed.Goals as goal

pub returns-in_err-exports-clause-gathers : goal.returns-in_err-exports-clause-gathers
returns-in_err-exports-clause-gathers g c =
    let p = err_from_is_err_and c.from_residual.result c.from_residual.ensures.1 in
    let names = rw c.items.ensures at c.in-Ok.ensures in
    let reads = rw c.items-2.ensures at c.in_err-exports.ensures.gathers in
    rw (p.1, p.2) (exports_end _ _ _ _ _ _ names reads)

pub returns-in_err-parts-clause-gathers : goal.returns-in_err-parts-clause-gathers
returns-in_err-parts-clause-gathers g c =
    let p = err_from_is_err_and c.from_residual-in_err-parts.result c.from_residual-in_err-parts.ensures.1 in
    let names = rw c.items.ensures at c.in-Ok.ensures in
    let reads = rw c.items-2.ensures at c.in_ok-exports.ensures.gathers in
    rw (p.1, p.2) (parts_end _ _ _ _ _ _ _ _ names reads c.in_err-parts.ensures.gathers)

pub returns-clause-gathers : goal.returns-clause-gathers
returns-clause-gathers g c =
    let names = rw c.items.ensures at c.in-Ok.ensures in
    let reads = rw c.items-2.ensures at c.in_ok-exports.ensures.gathers in
    listed_then _ _ _ _ _ _ _ _ names reads c.in_ok-parts.ensures.gathers
