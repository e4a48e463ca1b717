use Rattle.cjc_calls_by_token.proofs.Reaching as reaching
use Rattle.cjc_calls_by_token.proofs.methods_are_placed.Goals as goal

pub returns : goal.returns
returns c = reaching.methods_agree
