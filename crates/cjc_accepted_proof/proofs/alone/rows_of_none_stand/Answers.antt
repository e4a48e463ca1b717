use Rattle.cjc_accepted_proof.proofs.InstructionsLaws.Alone.{row_of_none}
use Rattle.cjc_accepted_proof.proofs.alone.rows_of_none_stand.Goals as goal

pub returns : goal.returns
returns c = row_of_none
