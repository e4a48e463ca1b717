use Rattle.cjc_verified_proof.proofs.TowerLaws.{dispatches, hidden_reached, open_reached}
use Rattle.cjc_verified_proof.proofs.dispatch.tables_dispatch.Goals as goal

pub returns-clause-alike : goal.returns-clause-alike
returns-clause-alike c = dispatches

pub returns-clause-shown : goal.returns-clause-shown
returns-clause-shown c = open_reached

pub returns-clause-hidden : goal.returns-clause-hidden
returns-clause-hidden c = hidden_reached
