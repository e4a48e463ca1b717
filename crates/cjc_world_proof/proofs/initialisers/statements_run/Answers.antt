use Rattle.cjc_world_proof.proofs.InitialisersLaws.Statements.{statement}
use Rattle.cjc_world_proof.proofs.initialisers.statements_run.Goals as goal

pub returns : goal.returns
returns c = statement
