use Rattle.cjc_verify_proof.proofs.PlainLaws.{parts}
use Rattle.cjc_card_acts.specs.CardTypes.{is_type_of}
use Rattle.cjc_verify_proof.proofs.InstructionLaws.{instruction_done}
use Rattle.cjc_verify_proof.proofs.turns.instructions_do.Goals as goal

pub returns : goal.returns
returns c l program result room next local_cells locals m k supers declared fit a operation suits cells stack w passes =
    instruction_done l program result room next local_cells locals m k supers declared fit a operation suits cells stack
    w passes (parts (is_type_of l) room a local_cells cells passes)
