use Rattle.cjc_verify_proof.proofs.ReferenceLaws.{casts, asks}
use Rattle.cjc_verify_proof.proofs.references.type_tests_hold.Goals as goal

pub returns-clause-casts : goal.returns-clause-casts
returns-clause-casts c l room next local_cells locals m k = casts l room next local_cells locals m k

pub returns-clause-asks : goal.returns-clause-asks
returns-clause-asks c l room next local_cells locals m k = asks l room next local_cells locals m k
