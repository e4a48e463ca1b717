use Rattle.std.specs.Prelude.{map}
use Rattle.cjc_joint_whole.specs.Linking.{linked_as}
use Rattle.cjc_joint_whole.proofs.WholeLaws.Linked.{are_linked}
use Rattle.cjc_joint_whole.proofs.WholeLaws.Supers.{keep_supers}
use Rattle.cjc_joint_whole.proofs.linking.packages_that_keep_rules_are_linked.Goals as goal

pub returns-clause-linked : goal.returns-clause-linked
returns-clause-linked c = λ packages rules. are_linked packages rules (c.packages_agree.ensures (map linked_as packages)
    rules.unbroken)

pub returns-clause-supers : goal.returns-clause-supers
returns-clause-supers c = λ packages rules. keep_supers packages rules (c.packages_agree.ensures (map linked_as packages)
    rules.unbroken)
