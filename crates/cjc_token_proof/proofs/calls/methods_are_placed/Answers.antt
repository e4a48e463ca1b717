use Rattle.cjc_token_proof.proofs.CallsLaws.Reaching as reaching
use Rattle.cjc_token_proof.proofs.calls.methods_are_placed.Goals as goal

pub returns : goal.returns
returns c = reaching.methods_agree
