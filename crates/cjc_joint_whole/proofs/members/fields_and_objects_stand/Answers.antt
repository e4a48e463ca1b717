use Rattle.cjc_joint_whole.proofs.WholeLaws.Joined.{fields_and_objects_stand}
use Rattle.cjc_joint_whole.proofs.members.fields_and_objects_stand.Goals as goal

pub returns : goal.returns
returns c = fields_and_objects_stand
