use Rattle.cjc_joint_proof.proofs.ReachLaws.{reach_agrees}
use Rattle.cjc_joint_proof.proofs.calls.joint_calls_reach.Goals as goal

pub returns : goal.returns
returns c = reach_agrees
