use Rattle.cjc_verified_proof.proofs.EntryLaws.{instance_typed, cell_typed}
use Rattle.cjc_verified_proof.proofs.entries.entries_have_types.Goals as goal

pub returns-clause-instances : goal.returns-clause-instances
returns-clause-instances c = instance_typed

pub returns-clause-cells : goal.returns-clause-cells
returns-clause-cells c = cell_typed
