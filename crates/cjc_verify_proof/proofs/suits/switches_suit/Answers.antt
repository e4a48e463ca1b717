use Rattle.cjc_verify_proof.proofs.RowSuits.{range_suits, pairs_suit}
use Rattle.cjc_verify_proof.proofs.suits.switches_suit.Goals as goal

pub returns-clause-ranges : goal.returns-clause-ranges
returns-clause-ranges c = range_suits

pub returns-clause-pairs : goal.returns-clause-pairs
returns-clause-pairs c = pairs_suit
