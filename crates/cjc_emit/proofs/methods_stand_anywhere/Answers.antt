use Rattle.cjc_emit.proofs.Shifted.{bytes_anywhere, header_read}
use Rattle.cjc_emit.proofs.methods_stand_anywhere.Goals as goal

pub returns : goal.returns
returns c = record { bytes = bytes_anywhere; header = header_read }
