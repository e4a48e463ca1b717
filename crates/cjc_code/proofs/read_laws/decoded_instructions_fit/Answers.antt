use Rattle.cjc_code.proofs.ReadLaws.Decoded.{decoded_instruction}
use Rattle.cjc_code.proofs.read_laws.decoded_instructions_fit.Goals as goal

pub returns : goal.returns
returns c = decoded_instruction
