use Rattle.cjc_accepted_proof.proofs.InstructionsLaws.Plain.{narrowing_mirrors, negation_mirrors}
use Rattle.cjc_accepted_proof.proofs.plain.numbers_are_mirrored.Goals as goal

pub returns-clause-negation : goal.returns-clause-negation
returns-clause-negation c = negation_mirrors

pub returns-clause-narrowing : goal.returns-clause-narrowing
returns-clause-narrowing c = narrowing_mirrors
