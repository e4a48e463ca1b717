use Rattle.cjc_verify_proof.proofs.FirstLaws.{first_holds}
use Rattle.cjc_verify_proof.proofs.statics.first_memory_holds.Goals as goal

pub returns : goal.returns
returns c = first_holds
