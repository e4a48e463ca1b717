use Rattle.cjc_joint_theorem.proofs.MembersLaws.Joined.{are_converted, runs}
use Rattle.cjc_joint_theorem.proofs.members.members_run_together.Goals as goal

pub returns-clause-converted : goal.returns-clause-converted
returns-clause-converted c = λ members first at is rest scripted. are_converted members is rest first at scripted

pub returns-clause-runs : goal.returns-clause-runs
returns-clause-runs c = λ members first at is rest scripted script. runs members is rest first at scripted script
