use Rattle.cjc_joint_proof.proofs.NamingLaws.{fetched_there}
use Rattle.cjc_joint_proof.proofs.naming.code_runs_there.Goals as goal

pub returns : goal.returns
returns c = fetched_there
