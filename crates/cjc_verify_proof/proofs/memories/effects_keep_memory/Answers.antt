use Rattle.cjc_verify_proof.proofs.MemoryLaws.{onward_go}
use Rattle.cjc_verify_proof.proofs.ArrayLaws.{zeros_go, nulls_go, puts_go}
use Rattle.cjc_verify_proof.proofs.memories.effects_keep_memory.Goals as goal

pub returns-clause-onward : goal.returns-clause-onward
returns-clause-onward c = onward_go

pub returns-clause-zeros : goal.returns-clause-zeros
returns-clause-zeros c = zeros_go

pub returns-clause-nulls : goal.returns-clause-nulls
returns-clause-nulls c = nulls_go

pub returns-clause-references : goal.returns-clause-references
returns-clause-references c = puts_go
