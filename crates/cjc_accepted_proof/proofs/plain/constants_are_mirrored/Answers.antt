use Rattle.cjc_accepted_proof.proofs.InstructionsLaws.Plain.{null_mirrors, number_mirrors}
use Rattle.cjc_accepted_proof.proofs.plain.constants_are_mirrored.Goals as goal

pub returns-clause-null : goal.returns-clause-null
returns-clause-null c = null_mirrors

pub returns-clause-number : goal.returns-clause-number
returns-clause-number c = number_mirrors
