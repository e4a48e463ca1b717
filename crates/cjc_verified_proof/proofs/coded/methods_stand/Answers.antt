use Rattle.cjc_verified_proof.proofs.CodedLaws.{stand}
use Rattle.cjc_verified_proof.proofs.coded.methods_stand.Goals as goal

pub returns : goal.returns
returns c = stand
