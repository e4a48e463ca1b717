use Rattle.cjc_joint_whole.proofs.WholeLaws.ToldCalls.{selections_stand}
use Rattle.cjc_joint_whole.proofs.members.told_methods_are_selected.Goals as goal

pub returns : goal.returns
returns c = selections_stand
