use Rattle.cjc_verify_proof.proofs.ControlLaws.{throws}
use Rattle.cjc_verify_proof.proofs.control.throws_hold.Goals as goal

pub returns : goal.returns
returns c l room next local_cells locals m k = throws l room next local_cells locals m k
