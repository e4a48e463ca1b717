use Rattle.cjc_verify_proof.proofs.RowSuits.{numbers_mean}
use Rattle.cjc_verify_proof.proofs.suits.numbers_are_meant.Goals as goal

pub returns : goal.returns
returns c = numbers_mean
