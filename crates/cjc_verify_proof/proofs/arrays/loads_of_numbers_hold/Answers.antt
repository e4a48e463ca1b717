use Rattle.cjc_verify_proof.proofs.HeapLaws.{loads_number}
use Rattle.cjc_verify_proof.proofs.arrays.loads_of_numbers_hold.Goals as goal

pub returns : goal.returns
returns c l room next local_cells locals m k = loads_number l room next local_cells locals m k
