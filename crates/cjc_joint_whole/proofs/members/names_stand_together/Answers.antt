use Rattle.cjc_joint_whole.proofs.WholeLaws.Joined.{names_stand}
use Rattle.cjc_joint_whole.proofs.members.names_stand_together.Goals as goal

pub returns : goal.returns
returns c = names_stand
