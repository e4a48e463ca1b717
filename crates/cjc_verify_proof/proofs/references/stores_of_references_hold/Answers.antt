use Rattle.cjc_verify_proof.proofs.ReferenceLaws.{stores_reference}
use Rattle.cjc_verify_proof.proofs.references.stores_of_references_hold.Goals as goal

pub returns : goal.returns
returns c l next local_cells locals m k = stores_reference l next local_cells locals m k
