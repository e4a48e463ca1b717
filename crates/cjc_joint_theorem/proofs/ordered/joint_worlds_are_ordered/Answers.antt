use Rattle.cjc_joint_theorem.proofs.OrderedLaws.Ordered.{ordered, plain_names}
use Rattle.cjc_joint_theorem.proofs.ordered.joint_worlds_are_ordered.Goals as goal

pub returns-clause-ordered : goal.returns-clause-ordered
returns-clause-ordered c = ordered

pub returns-clause-plain : goal.returns-clause-plain
returns-clause-plain c = plain_names
