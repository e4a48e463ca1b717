use Rattle.cjc_accepted_proof.proofs.RowsLaws.{row_stands}
use Rattle.cjc_accepted_proof.proofs.rows.mirrored_rows_stand.Goals as goal

pub returns : goal.returns
returns c = row_stands
