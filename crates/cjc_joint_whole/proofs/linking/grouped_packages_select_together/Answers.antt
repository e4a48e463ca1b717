use Rattle.cjc_joint_whole.proofs.WholeLaws.OrderedGroup.{select_together}
use Rattle.cjc_joint_whole.proofs.linking.grouped_packages_select_together.Goals as goal

pub returns : goal.returns
returns c = λ packages is.
    let linked = c.packages_that_keep_rules_are_linked.ensures in
    select_together packages (linked.linked packages is.keeps) (linked.supers packages is.keeps) is
