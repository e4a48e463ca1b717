use Rattle.std.proofs.Common.{ap, ◌∙◌}
use Rattle.std.proofs.lemmas.Result.{err_from_is_err_and}
use Rattle.cjc_cmd_check.specs.Folder.Reads.{tags_of}
use Rattle.cjc_cmd_check.proofs.FolderLaws.Gathers.{others_end, others_then}
use Rattle.cjc_cmd_check.proofs.folder.reads.gather_others.Goals as goal

pub returns-in_err-others-clause-gathers : goal.returns-in_err-others-clause-gathers
returns-in_err-others-clause-gathers g c =
    let p = err_from_is_err_and c.from_residual.result c.from_residual.ensures.1 in
    let tags = rw c.items.ensures at c.in-Ok.ensures in
    let names = rw c.items-2.ensures at c.in-Ok-component_names.ensures in
    let reads = rw c.items-3.ensures at c.in_err-others.ensures.gathers in
    rw (p.1, p.2) (others_end _ _ _ _ _ _ _ _ tags names reads)

pub returns-clause-gathers : goal.returns-clause-gathers
returns-clause-gathers g c =
    let tags = rw c.items.ensures at c.in-Ok.ensures in
    let names = rw c.items-2.ensures at c.in-Ok-component_names.ensures in
    let reads = rw c.items-3.ensures at c.in_ok-others.ensures.gathers in
    others_then _ _ _ _ _ _ _ _ tags names reads
