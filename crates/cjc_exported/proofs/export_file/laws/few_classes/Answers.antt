use Rattle.cjc_exported.proofs.ExportFile.Few.{exported-few}
use Rattle.cjc_exported.proofs.export_file.laws.few_classes.Goals as goal

pub returns : goal.returns
returns c p few = exported-few p few
