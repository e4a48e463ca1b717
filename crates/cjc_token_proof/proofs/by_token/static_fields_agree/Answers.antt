use Rattle.cjc_token_proof.proofs.ByToken.Cells.{cells_agree}
use Rattle.cjc_token_proof.proofs.by_token.static_fields_agree.Goals as goal

pub returns : goal.returns
returns c = cells_agree
