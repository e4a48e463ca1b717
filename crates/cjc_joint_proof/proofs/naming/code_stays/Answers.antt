use Rattle.cjc_joint_proof.proofs.NamingLaws.{code_stands}
use Rattle.cjc_joint_proof.proofs.naming.code_stays.Goals as goal

pub returns : goal.returns
returns c = code_stands
