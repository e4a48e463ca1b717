use Rattle.cjc_verified_proof.proofs.CodedLaws.{exceptions}
use Rattle.cjc_verified_proof.proofs.coded.exceptions_are_there.Goals as goal

pub returns : goal.returns
returns c = exceptions
