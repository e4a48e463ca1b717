use Rattle.cjc_token_proof.proofs.CallsLaws.Reaching.{fixed_calls_reach}
use Rattle.cjc_token_proof.proofs.calls.fixed_calls_reach.Goals as goal

pub returns : goal.returns
returns c = fixed_calls_reach
