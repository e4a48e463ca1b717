use Rattle.cjc_accepted_proof.proofs.InstructionsLaws.Members.{return_mirrors}
use Rattle.cjc_accepted_proof.proofs.members.returns_are_mirrored.Goals as goal

pub returns : goal.returns
returns c = return_mirrors
