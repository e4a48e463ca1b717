use Rattle.cjc_accepted_proof.proofs.KindsLaws.{getting_mirrors}
use Rattle.cjc_accepted_proof.proofs.kinds.field_reads_are_mirrored.Goals as goal

pub returns : goal.returns
returns c = getting_mirrors
