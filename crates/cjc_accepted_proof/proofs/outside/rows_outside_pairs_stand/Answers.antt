use Rattle.cjc_accepted_proof.proofs.InstructionsLaws.Outside.{row_outside}
use Rattle.cjc_accepted_proof.proofs.outside.rows_outside_pairs_stand.Goals as goal

pub returns : goal.returns
returns c = row_outside
