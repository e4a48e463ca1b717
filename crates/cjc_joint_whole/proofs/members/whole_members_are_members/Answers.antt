use Rattle.cjc_joint_whole.proofs.WholeLaws.Members.{are_members, ordered_together}
use Rattle.cjc_joint_whole.proofs.members.whole_members_are_members.Goals as goal

pub returns-clause-members : goal.returns-clause-members
returns-clause-members c = are_members

pub returns-clause-ordered : goal.returns-clause-ordered
returns-clause-ordered c = ordered_together
