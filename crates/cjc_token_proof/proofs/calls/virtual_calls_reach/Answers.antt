use Rattle.cjc_token_proof.proofs.CallsLaws.Reaching as reaching
use Rattle.cjc_token_proof.proofs.calls.virtual_calls_reach.Goals as goal

pub returns : goal.returns
returns c = λ files w n offset place begins x z says selections. reaching.virtual_calls_reach files w n offset place
    begins x z says selections
