use Rattle.cjc_emit.proofs.Decoded.{code_decoded}
use Rattle.cjc_emit.proofs.emitted_code_is_decoded.Goals as goal

pub returns : goal.returns
returns c = code_decoded
