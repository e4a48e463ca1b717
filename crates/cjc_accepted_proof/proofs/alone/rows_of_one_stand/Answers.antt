use Rattle.cjc_accepted_proof.proofs.InstructionsLaws.Alone.{row_of_one}
use Rattle.cjc_accepted_proof.proofs.alone.rows_of_one_stand.Goals as goal

pub returns : goal.returns
returns c = row_of_one
