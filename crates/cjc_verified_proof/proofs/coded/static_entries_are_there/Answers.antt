use Rattle.cjc_verified_proof.proofs.CodedLaws.{calls}
use Rattle.cjc_verified_proof.proofs.coded.static_entries_are_there.Goals as goal

pub returns : goal.returns
returns c = calls
