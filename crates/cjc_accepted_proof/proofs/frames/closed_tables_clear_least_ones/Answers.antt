use Rattle.cjc_accepted_proof.proofs.BelowLaws.{none_below}
use Rattle.cjc_accepted_proof.proofs.frames.closed_tables_clear_least_ones.Goals as goal

pub returns : goal.returns
returns c = none_below
