use Rattle.cjc_joint_proof.proofs.OutwardLaws.{outside_reach, outside_words}
use Rattle.cjc_joint_proof.proofs.calls.joint_outside_calls_reach.Goals as goal

pub returns-clause-reach : goal.returns-clause-reach
returns-clause-reach c = outside_reach

pub returns-clause-take : goal.returns-clause-take
returns-clause-take c = outside_words
