use Rattle.cjc_joint_theorem.proofs.RuleLaws.{specials_are}
use Rattle.cjc_joint_theorem.proofs.rules.specials_stay.Goals as goal

pub returns : goal.returns
returns c = specials_are
