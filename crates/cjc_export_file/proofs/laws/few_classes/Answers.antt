use Rattle.cjc_export_file.proofs.Few.{exported-few}
use Rattle.cjc_export_file.proofs.laws.few_classes.Goals as goal

pub returns : goal.returns
returns c p few = exported-few p few
