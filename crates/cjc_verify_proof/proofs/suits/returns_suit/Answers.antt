use Rattle.cjc_verify_proof.proofs.RowSuits.{return_suits}
use Rattle.cjc_verify_proof.proofs.suits.returns_suit.Goals as goal

pub returns : goal.returns
returns c l program result = return_suits l program result
