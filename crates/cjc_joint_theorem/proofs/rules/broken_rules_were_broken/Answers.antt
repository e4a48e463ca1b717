use Rattle.cjc_joint_theorem.proofs.RuleLaws.{breach_stays}
use Rattle.cjc_joint_theorem.proofs.rules.broken_rules_were_broken.Goals as goal

pub returns : goal.returns
returns c = λ v w stays b rows calls place rule breach. breach_stays v w stays b rows calls place rule breach
