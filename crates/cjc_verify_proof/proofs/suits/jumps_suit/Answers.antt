use Rattle.cjc_verify_proof.proofs.RowSuits.{jump_suits}
use Rattle.cjc_verify_proof.proofs.suits.jumps_suit.Goals as goal

pub returns : goal.returns
returns c = jump_suits
