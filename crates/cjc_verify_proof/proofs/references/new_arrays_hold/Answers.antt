use Rattle.cjc_verify_proof.proofs.ReferenceLaws.{makes_numbers, makes_references}
use Rattle.cjc_verify_proof.proofs.references.new_arrays_hold.Goals as goal

pub returns-clause-numbers : goal.returns-clause-numbers
returns-clause-numbers c l room next local_cells locals m k = makes_numbers l room next local_cells locals m k

pub returns-clause-references : goal.returns-clause-references
returns-clause-references c l room next local_cells locals m k = makes_references l room next local_cells locals m k
