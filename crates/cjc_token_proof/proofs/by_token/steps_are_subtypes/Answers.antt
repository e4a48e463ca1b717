use Rattle.cjc_token_proof.proofs.ByToken.Subtypes.{steps_agree}
use Rattle.cjc_token_proof.proofs.by_token.steps_are_subtypes.Goals as goal

pub returns : goal.returns
returns c = steps_agree
