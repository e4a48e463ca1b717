use Rattle.cjc_cmd_check.proofs.FolderLaws.Gathers.{folder_then}
use Rattle.cjc_cmd_check.proofs.folder.reads.gather_folder.Goals as goal

pub returns-clause-gathers : goal.returns-clause-gathers
returns-clause-gathers g c =
    let rest = rw c.items.ensures at c.gather_text.ensures.gathers in
    folder_then _ _ _ _ _ _ _ c.in_ok-text.ensures.gathers rest
