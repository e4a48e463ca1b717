use Rattle.cjc_read_laws.proofs.Decoded.{decoded_instruction}
use Rattle.cjc_read_laws.proofs.decoded_instructions_fit.Goals as goal

pub returns : goal.returns
returns c = decoded_instruction
