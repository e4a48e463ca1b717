use Rattle.cjc_verified_proof.proofs.DispatchSuits.{all_calls}
use Rattle.cjc_verified_proof.proofs.dispatch.calls_suit.Goals as goal

pub returns : goal.returns
returns c = all_calls
