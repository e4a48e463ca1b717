use Rattle.cjc_token_proof.proofs.ByToken.Subtypes.{kinds_agree}
use Rattle.cjc_token_proof.proofs.by_token.kinds_are_subtypes.Goals as goal

pub returns : goal.returns
returns c = kinds_agree
