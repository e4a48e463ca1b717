use Rattle.cjc_joint_theorem.proofs.OrderedLaws.Lines.{begins}
use Rattle.cjc_joint_theorem.proofs.ordered.searches_begin_alike.Goals as goal

pub returns : goal.returns
returns c = begins
