use Rattle.cjc_joint_proof.proofs.StartedLaws.{begins_known, begins_there}
use Rattle.cjc_joint_proof.proofs.runs.joint_runs_begin_alike.Goals as goal

pub returns-clause-alike : goal.returns-clause-alike
returns-clause-alike c = begins_there

pub returns-clause-known : goal.returns-clause-known
returns-clause-known c = begins_known
