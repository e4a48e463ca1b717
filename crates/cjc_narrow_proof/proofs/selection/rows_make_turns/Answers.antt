use Rattle.cjc_narrow_proof.proofs.SelectionLaws.Turns.{row_turns}
use Rattle.cjc_narrow_proof.proofs.selection.rows_make_turns.Goals as goal

pub returns : goal.returns
returns c = row_turns
