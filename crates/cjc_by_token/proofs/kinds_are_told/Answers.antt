use Rattle.cjc_by_token.proofs.Above.{told_above, above_told}
use Rattle.cjc_by_token.proofs.kinds_are_told.Goals as goal

pub returns : goal.returns
returns c = λ l a b. (told_above l a b, above_told l a b)
