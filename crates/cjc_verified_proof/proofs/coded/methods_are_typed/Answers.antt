use Rattle.cjc_verified_proof.proofs.CodedLaws.{typed}
use Rattle.cjc_verified_proof.proofs.coded.methods_are_typed.Goals as goal

pub returns : goal.returns
returns c = typed
