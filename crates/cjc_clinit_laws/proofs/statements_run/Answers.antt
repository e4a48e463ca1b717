use Rattle.cjc_clinit_laws.proofs.Statements.{statement}
use Rattle.cjc_clinit_laws.proofs.statements_run.Goals as goal

pub returns : goal.returns
returns c = statement
