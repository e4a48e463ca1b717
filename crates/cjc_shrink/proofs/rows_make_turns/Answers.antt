use Rattle.cjc_shrink.proofs.Turns.{row_turns}
use Rattle.cjc_shrink.proofs.rows_make_turns.Goals as goal

pub returns : goal.returns
returns c = row_turns
