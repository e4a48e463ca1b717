use Rattle.cjc_calls_by_token.proofs.Reaching.{fixed_calls_reach}
use Rattle.cjc_calls_by_token.proofs.fixed_calls_reach.Goals as goal

pub returns : goal.returns
returns c = fixed_calls_reach
