use Rattle.cjc_accepted_proof.proofs.StepsLaws.{steps_are_laid}
use Rattle.cjc_accepted_proof.proofs.beside.instructions_are_laid.Goals as goal

pub returns : goal.returns
returns c = steps_are_laid
