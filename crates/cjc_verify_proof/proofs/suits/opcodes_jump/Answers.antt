use Rattle.cjc_verify_proof.proofs.RowSuits.{jumps_jump, switches_jump_not}
use Rattle.cjc_verify_proof.proofs.suits.opcodes_jump.Goals as goal

pub returns-clause-jumps : goal.returns-clause-jumps
returns-clause-jumps c = jumps_jump

pub returns-clause-switches : goal.returns-clause-switches
returns-clause-switches c = switches_jump_not
