use Rattle.cjc_verify_proof.proofs.ControlLaws.{jump_leads}
use Rattle.cjc_verify_proof.proofs.control.jumps_lead.Goals as goal

pub returns : goal.returns
returns c l room next local_cells locals m k = jump_leads l room next local_cells locals m k
