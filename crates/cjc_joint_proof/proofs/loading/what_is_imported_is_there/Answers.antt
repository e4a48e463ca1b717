use Rattle.cjc_joint_proof.proofs.LoadLaws.{has_each}
use Rattle.cjc_joint_proof.proofs.loading.what_is_imported_is_there.Goals as goal

pub returns : goal.returns
returns c = has_each
