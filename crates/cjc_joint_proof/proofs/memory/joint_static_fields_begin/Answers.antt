use Rattle.cjc_joint_proof.proofs.MemoryLaws.{images_begin}
use Rattle.cjc_joint_proof.proofs.memory.joint_static_fields_begin.Goals as goal

pub returns : goal.returns
returns c = images_begin
