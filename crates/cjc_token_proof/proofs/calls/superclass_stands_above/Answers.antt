use Rattle.cjc_token_proof.proofs.CallsLaws.Towers.{superclass_above}
use Rattle.cjc_token_proof.proofs.calls.superclass_stands_above.Goals as goal

pub returns : goal.returns
returns c = λ w n offset height x super z class says more le. superclass_above w n offset x super z class says more le
