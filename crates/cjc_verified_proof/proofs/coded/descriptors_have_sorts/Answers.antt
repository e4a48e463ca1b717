use Rattle.cjc_verified_proof.proofs.CodedLaws.{sorts}
use Rattle.cjc_verified_proof.proofs.coded.descriptors_have_sorts.Goals as goal

pub returns : goal.returns
returns c = sorts
