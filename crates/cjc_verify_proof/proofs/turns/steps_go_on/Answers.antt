use Rattle.cjc_verify_proof.proofs.TurnLaws.{step_goes}
use Rattle.cjc_verify_proof.proofs.turns.steps_go_on.Goals as goal

pub returns : goal.returns
returns c = step_goes
