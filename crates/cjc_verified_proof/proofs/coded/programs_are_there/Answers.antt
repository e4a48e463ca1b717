use Rattle.cjc_verified_proof.proofs.CodedLaws.{program_there}
use Rattle.cjc_verified_proof.proofs.coded.programs_are_there.Goals as goal

pub returns : goal.returns
returns c = program_there
