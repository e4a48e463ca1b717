use Rattle.cjc_verify_proof.proofs.ControlLaws.{leaves}
use Rattle.cjc_verify_proof.proofs.control.returns_hold.Goals as goal

pub returns : goal.returns
returns c l room next local_cells locals m k = leaves l room next local_cells locals m k
