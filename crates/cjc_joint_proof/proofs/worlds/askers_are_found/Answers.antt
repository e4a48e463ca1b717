use Rattle.cjc_joint_proof.proofs.WorldLaws.{own_files}
use Rattle.cjc_joint_proof.proofs.worlds.askers_are_found.Goals as goal

pub returns : goal.returns
returns c = own_files
