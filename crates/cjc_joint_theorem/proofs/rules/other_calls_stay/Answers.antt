use Rattle.cjc_joint_theorem.proofs.RuleLaws.{specials_do}
use Rattle.cjc_joint_theorem.proofs.rules.other_calls_stay.Goals as goal

pub returns : goal.returns
returns c = specials_do
