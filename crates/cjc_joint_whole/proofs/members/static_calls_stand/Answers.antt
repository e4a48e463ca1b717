use Rattle.cjc_joint_whole.proofs.WholeLaws.FixedCalls.{static_stands}
use Rattle.cjc_joint_whole.proofs.members.static_calls_stand.Goals as goal

pub returns : goal.returns
returns c = static_stands
