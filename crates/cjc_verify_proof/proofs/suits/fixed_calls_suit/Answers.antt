use Rattle.cjc_verify_proof.proofs.CalleeLaws.{fixed_calls}
use Rattle.cjc_verify_proof.proofs.suits.fixed_calls_suit.Goals as goal

pub returns : goal.returns
returns c = fixed_calls
