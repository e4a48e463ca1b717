use Rattle.cjc_verified_proof.proofs.CodedLaws.{is_program}
use Rattle.cjc_verified_proof.proofs.coded.programs_are_lawful.Goals as goal

pub returns : goal.returns
returns c = is_program
