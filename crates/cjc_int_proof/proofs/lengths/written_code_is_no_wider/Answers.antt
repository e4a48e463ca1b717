use Rattle.cjc_int_proof.proofs.Sizes.{no_wider}
use Rattle.cjc_int_proof.proofs.lengths.written_code_is_no_wider.Goals as goal

pub returns : goal.returns
returns c = no_wider
