use Rattle.cjc_accepted_proof.proofs.InstructionsLaws.Alone.{row_alone}
use Rattle.cjc_accepted_proof.proofs.alone.rows_alone_stand.Goals as goal

pub returns : goal.returns
returns c = row_alone
