use Rattle.cjc_class_laws.proofs.Exporting.{none}
use Rattle.cjc_class_laws.proofs.exports_are_described.Goals as goal

pub returns : goal.returns
returns c = none
