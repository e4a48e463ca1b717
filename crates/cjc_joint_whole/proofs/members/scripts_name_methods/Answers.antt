use Rattle.cjc_joint_whole.proofs.WholeLaws.Scripted.{scripted}
use Rattle.cjc_joint_whole.proofs.members.scripts_name_methods.Goals as goal

pub returns : goal.returns
returns c = scripted
