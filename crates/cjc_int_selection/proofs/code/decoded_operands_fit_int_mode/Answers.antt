use Rattle.cjc_int_selection.proofs.Operands.{int_operands_fit}
use Rattle.cjc_int_selection.proofs.code.decoded_operands_fit_int_mode.Goals as goal

pub returns : goal.returns
returns c = int_operands_fit
