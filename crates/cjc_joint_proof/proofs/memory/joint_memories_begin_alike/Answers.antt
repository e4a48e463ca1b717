use Rattle.cjc_joint_proof.proofs.BegunLaws.{memory_alike, statics_alike}
use Rattle.cjc_joint_proof.proofs.memory.joint_memories_begin_alike.Goals as goal

pub returns-clause-statics : goal.returns-clause-statics
returns-clause-statics c = statics_alike

pub returns-clause-memory : goal.returns-clause-memory
returns-clause-memory c = memory_alike
