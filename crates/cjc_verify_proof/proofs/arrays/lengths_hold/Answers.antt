use Rattle.cjc_verify_proof.proofs.HeapLaws.{lengths_go}
use Rattle.cjc_verify_proof.proofs.arrays.lengths_hold.Goals as goal

pub returns : goal.returns
returns c l room next local_cells locals m k = lengths_go l room next local_cells locals m k
