use Rattle.cjc_accepted_proof.proofs.InstructionsLaws.Plain.{shuffle_mirrors}
use Rattle.cjc_accepted_proof.proofs.plain.stack_instructions_are_mirrored.Goals as goal

pub returns : goal.returns
returns c = shuffle_mirrors
