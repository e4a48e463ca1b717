use Rattle.cjc_joint_proof.proofs.KnownLaws.{objects_alike}
use Rattle.cjc_joint_proof.proofs.calls.joint_calls_take_objects_alike.Goals as goal

pub returns : goal.returns
returns c = objects_alike
