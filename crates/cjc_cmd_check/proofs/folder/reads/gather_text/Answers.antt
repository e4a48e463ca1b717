use Rattle.cjc_cmd_check.proofs.FolderLaws.Gathers.{text_then}
use Rattle.cjc_cmd_check.proofs.folder.reads.gather_text.Goals as goal

pub returns-in-Ok-clause-gathers : goal.returns-in-Ok-clause-gathers
returns-in-Ok-clause-gathers g c = text_then _ _ _ _ _ _ _ c.in-Ok.ensures.exact c.gather_listed.ensures.gathers
