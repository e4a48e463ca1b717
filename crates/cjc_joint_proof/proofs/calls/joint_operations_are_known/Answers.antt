use Rattle.cjc_joint_proof.proofs.KnownLaws.{operations_known}
use Rattle.cjc_joint_proof.proofs.calls.joint_operations_are_known.Goals as goal

pub returns : goal.returns
returns c = operations_known
