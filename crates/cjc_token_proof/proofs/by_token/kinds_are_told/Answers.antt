use Rattle.cjc_token_proof.proofs.ByToken.Above.{told_above, above_told}
use Rattle.cjc_token_proof.proofs.by_token.kinds_are_told.Goals as goal

pub returns : goal.returns
returns c = λ l a b. (told_above l a b, above_told l a b)
