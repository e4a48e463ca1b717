use Rattle.cjc_int_components.proofs.Operands.{int_operands_fit}
use Rattle.cjc_int_components.proofs.code.decoded_operands_fit_int_mode.Goals as goal

pub returns : goal.returns
returns c = int_operands_fit
