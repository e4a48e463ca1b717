use Rattle.cjc_joint_whole_modes.proofs.WholeModes.Members.{are_members}
use Rattle.cjc_joint_whole_modes.proofs.WholeModes.Named.{names_stand}
use Rattle.cjc_joint_whole_modes.proofs.WholeModes.Scripted.{scripted}
use Rattle.cjc_joint_whole_modes.proofs.members.whole_members_by_modes_are_members.Goals as goal

pub returns-clause-members : goal.returns-clause-members
returns-clause-members c = are_members

pub returns-clause-stand : goal.returns-clause-stand
returns-clause-stand c = names_stand

pub returns-clause-scripted : goal.returns-clause-scripted
returns-clause-scripted c = scripted
