use Rattle.cjc_accepted_proof.proofs.BesideLaws.{rows_stand}
use Rattle.cjc_accepted_proof.proofs.beside.rows_of_methods_stand.Goals as goal

pub returns : goal.returns
returns c = rows_stand
