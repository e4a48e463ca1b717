use Rattle.cjc_by_token.proofs.Subtypes.{kinds_agree}
use Rattle.cjc_by_token.proofs.kinds_are_subtypes.Goals as goal

pub returns : goal.returns
returns c = kinds_agree
