use Rattle.cjc_accepted_proof.proofs.PairsLaws.{pair_row_stands}
use Rattle.cjc_accepted_proof.proofs.pairs.rows_in_pairs_stand.Goals as goal

pub returns : goal.returns
returns c = pair_row_stands
