use Rattle.cjc_token_proof.proofs.ByToken.Classes as classes
use Rattle.cjc_token_proof.proofs.by_token.classes_are_alike.Goals as goal

pub returns : goal.returns
returns c = classes.classes_alike
