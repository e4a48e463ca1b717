use Rattle.cjc_accepted_proof.proofs.KindsLaws.{handler_below}
use Rattle.cjc_accepted_proof.proofs.kinds.exceptions_are_mirrored.Goals as goal

pub returns : goal.returns
returns c = handler_below
