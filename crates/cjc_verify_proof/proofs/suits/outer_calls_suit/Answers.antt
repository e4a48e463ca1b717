use Rattle.cjc_verify_proof.proofs.CalleeLaws.{outer_calls}
use Rattle.cjc_verify_proof.proofs.suits.outer_calls_suit.Goals as goal

pub returns : goal.returns
returns c = outer_calls
