use Rattle.cjc_capread.proofs.Decoding.{decode_emitted, length_emitted}
use Rattle.cjc_capread.proofs.instruction.what_is_written_is_decoded.Goals as goal

pub returns-clause-back : goal.returns-clause-back
returns-clause-back c = decode_emitted

pub returns-clause-length : goal.returns-clause-length
returns-clause-length c = length_emitted
