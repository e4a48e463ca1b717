use Rattle.cjc_joint_theorem.proofs.OrderedLaws.Selected.{exposed_together, hidden_together, open_together}
use Rattle.cjc_joint_theorem.proofs.ordered.own_methods_are_selected.Goals as goal

pub returns-clause-exposed : goal.returns-clause-exposed
returns-clause-exposed c = exposed_together

pub returns-clause-opened : goal.returns-clause-opened
returns-clause-opened c = open_together

pub returns-clause-hidden : goal.returns-clause-hidden
returns-clause-hidden c = hidden_together
