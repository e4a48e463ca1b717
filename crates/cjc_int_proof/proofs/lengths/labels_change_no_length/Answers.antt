use Rattle.cjc_int_proof.proofs.Counts.{same_length}
use Rattle.cjc_int_proof.proofs.lengths.labels_change_no_length.Goals as goal

pub returns : goal.returns
returns c = same_length
