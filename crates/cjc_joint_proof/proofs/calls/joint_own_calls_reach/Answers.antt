use Rattle.cjc_joint_proof.proofs.FixedLaws.{own_calls_reach, own_calls_stand, own_calls_take}
use Rattle.cjc_joint_proof.proofs.calls.joint_own_calls_reach.Goals as goal

pub returns-clause-reach : goal.returns-clause-reach
returns-clause-reach c = own_calls_reach

pub returns-clause-take : goal.returns-clause-take
returns-clause-take c = own_calls_take

pub returns-clause-stand : goal.returns-clause-stand
returns-clause-stand c = own_calls_stand
