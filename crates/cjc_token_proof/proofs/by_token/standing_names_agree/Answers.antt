use Rattle.cjc_token_proof.proofs.ByToken.Names as names
use Rattle.cjc_token_proof.proofs.by_token.standing_names_agree.Goals as goal

pub returns : goal.returns
returns c = names.standing_names_agree
