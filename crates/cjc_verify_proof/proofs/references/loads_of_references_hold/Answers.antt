use Rattle.cjc_verify_proof.proofs.ReferenceLaws.{loads_reference}
use Rattle.cjc_verify_proof.proofs.references.loads_of_references_hold.Goals as goal

pub returns : goal.returns
returns c l room next local_cells locals m k = loads_reference l room next local_cells locals m k
