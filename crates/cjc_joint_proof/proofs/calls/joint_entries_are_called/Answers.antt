use Rattle.cjc_joint_proof.proofs.CalledLaws.{called_among, called_together}
use Rattle.cjc_joint_proof.proofs.calls.joint_entries_are_called.Goals as goal

pub returns-clause-alike : goal.returns-clause-alike
returns-clause-alike c = called_together

pub returns-clause-there : goal.returns-clause-there
returns-clause-there c = called_among
