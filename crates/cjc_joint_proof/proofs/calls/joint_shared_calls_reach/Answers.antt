use Rattle.cjc_joint_proof.proofs.SharedLaws.{shared_reach, shared_stand, shared_words}
use Rattle.cjc_joint_proof.proofs.calls.joint_shared_calls_reach.Goals as goal

pub returns-clause-reach : goal.returns-clause-reach
returns-clause-reach c = shared_reach

pub returns-clause-take : goal.returns-clause-take
returns-clause-take c = shared_words

pub returns-clause-stand : goal.returns-clause-stand
returns-clause-stand c = shared_stand
