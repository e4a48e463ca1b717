use Rattle.cjc_accepted_proof.proofs.RowsLaws.{arithmetic_mirrors}
use Rattle.cjc_accepted_proof.proofs.rows.arithmetic_is_mirrored.Goals as goal

pub returns : goal.returns
returns c = arithmetic_mirrors
