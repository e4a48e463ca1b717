use Rattle.cjc_calls_by_token.proofs.Reaching.{super_calls_reach}
use Rattle.cjc_calls_by_token.proofs.super_calls_reach.Goals as goal

pub returns : goal.returns
returns c = super_calls_reach
