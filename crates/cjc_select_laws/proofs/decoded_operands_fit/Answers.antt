use Rattle.cjc_select_laws.proofs.Decoded.{operands_fit}
use Rattle.cjc_select_laws.proofs.decoded_operands_fit.Goals as goal

pub returns : goal.returns
returns c = operands_fit
