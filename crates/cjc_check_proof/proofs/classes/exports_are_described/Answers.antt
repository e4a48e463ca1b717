use Rattle.cjc_check_proof.proofs.ClassesLaws.Exporting.{none}
use Rattle.cjc_check_proof.proofs.classes.exports_are_described.Goals as goal

pub returns : goal.returns
returns c = none
