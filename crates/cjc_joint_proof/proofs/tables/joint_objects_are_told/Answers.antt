use Rattle.cjc_joint_proof.proofs.FieldedLaws.{has_objects}
use Rattle.cjc_joint_proof.proofs.tables.joint_objects_are_told.Goals as goal

pub returns : goal.returns
returns c = λ packages linked keep typed x fields holds. has_objects packages linked keep typed x fields holds
