use Rattle.cjc_calls_by_token.proofs.Reaching as reaching
use Rattle.cjc_calls_by_token.proofs.virtual_calls_reach.Goals as goal

pub returns : goal.returns
returns c = λ files w n offset place begins x z says selections. reaching.virtual_calls_reach files w n offset place begins x z says selections
