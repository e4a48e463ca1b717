use Rattle.cjc_cmd_link.proofs.Gathers.{text_then}
use Rattle.cjc_cmd_link.proofs.reads.gather_text.Goals as goal

pub returns-in-Ok-clause-gathers : goal.returns-in-Ok-clause-gathers
returns-in-Ok-clause-gathers g c = text_then _ _ _ _ _ _ _ c.in-Ok.ensures.exact c.gather_behind.ensures.gathers
