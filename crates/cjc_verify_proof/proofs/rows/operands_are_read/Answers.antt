use Rattle.cjc_verify_proof.proofs.OperandLaws.{operands_read}
use Rattle.cjc_verify_proof.proofs.rows.operands_are_read.Goals as goal

pub returns : goal.returns
returns c = operands_read
