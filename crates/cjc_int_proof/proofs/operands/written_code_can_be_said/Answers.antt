use Rattle.cjc_int_proof.proofs.Said.{all_said}
use Rattle.cjc_int_proof.proofs.operands.written_code_can_be_said.Goals as goal

pub returns : goal.returns
returns c = all_said
