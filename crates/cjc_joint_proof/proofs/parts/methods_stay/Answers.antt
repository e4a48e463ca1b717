use Rattle.cjc_joint_proof.proofs.PartLaws.{declared_same, starts_same}
use Rattle.cjc_joint_proof.proofs.parts.methods_stay.Goals as goal

pub returns-clause-starts : goal.returns-clause-starts
returns-clause-starts c = starts_same

pub returns-clause-declared : goal.returns-clause-declared
returns-clause-declared c = declared_same
