use Rattle.cjc_verify_proof.proofs.ControlLaws.{picks}
use Rattle.cjc_verify_proof.proofs.control.switches_lead.Goals as goal

pub returns : goal.returns
returns c l room next local_cells locals m k = picks l room next local_cells locals m k
