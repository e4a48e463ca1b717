use Rattle.cjc_verified_proof.proofs.CodedLaws.{suited}
use Rattle.cjc_verified_proof.proofs.coded.instructions_suit.Goals as goal

pub returns : goal.returns
returns c = suited
