use Rattle.cjc_accepted_proof.proofs.BesideLaws.{beside_decoded, beside_pairs}
use Rattle.cjc_accepted_proof.proofs.beside.methods_stand_in_pairs.Goals as goal

pub returns-clause-decoded : goal.returns-clause-decoded
returns-clause-decoded c = beside_decoded

pub returns-clause-pairs : goal.returns-clause-pairs
returns-clause-pairs c = beside_pairs
