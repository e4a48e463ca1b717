use Rattle.cjc_joint_proof.proofs.PlacedLaws.{methods_placed}
use Rattle.cjc_joint_proof.proofs.code.joint_methods_are_placed.Goals as goal

pub returns : goal.returns
returns c = methods_placed
