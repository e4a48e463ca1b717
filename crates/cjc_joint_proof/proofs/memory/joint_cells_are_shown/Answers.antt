use Rattle.cjc_joint_proof.proofs.BegunLaws.{have_statics, shown_alike}
use Rattle.cjc_joint_proof.proofs.memory.joint_cells_are_shown.Goals as goal

pub returns-clause-have : goal.returns-clause-have
returns-clause-have c = have_statics

pub returns-clause-shown : goal.returns-clause-shown
returns-clause-shown c = shown_alike
