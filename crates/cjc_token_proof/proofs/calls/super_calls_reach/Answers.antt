use Rattle.cjc_token_proof.proofs.CallsLaws.Reaching.{super_calls_reach}
use Rattle.cjc_token_proof.proofs.calls.super_calls_reach.Goals as goal

pub returns : goal.returns
returns c = super_calls_reach
