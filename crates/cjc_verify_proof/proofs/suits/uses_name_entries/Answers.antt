use Rattle.cjc_verify_proof.proofs.RowSuits.{use_is}
use Rattle.cjc_verify_proof.proofs.suits.uses_name_entries.Goals as goal

pub returns : goal.returns
returns c = use_is
