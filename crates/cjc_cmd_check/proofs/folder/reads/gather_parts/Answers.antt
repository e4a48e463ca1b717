use Rattle.std.proofs.lemmas.Result.{err_from_is_err_and}
use Rattle.cjc_cmd_check.proofs.FolderLaws.Gathers.{directory_end, parts_then}
use Rattle.cjc_cmd_check.proofs.folder.reads.gather_parts.Goals as goal

pub returns-in_err-directory-clause-gathers : goal.returns-in_err-directory-clause-gathers
returns-in_err-directory-clause-gathers g c =
    let p = err_from_is_err_and c.from_residual-in_err-directory.result c.from_residual-in_err-directory.ensures.1 in
    rw (p.1, p.2) (directory_end _ _ _ _ _ _ c.in_ok-header.ensures.gathers c.in_err-directory.ensures.gathers)

pub returns-clause-gathers : goal.returns-clause-gathers
returns-clause-gathers g c = parts_then _ _ _ _ _ _ _ _ c.in_ok-header.ensures.gathers c.in_ok-directory.ensures.gathers
    c.gather_others.ensures.gathers
