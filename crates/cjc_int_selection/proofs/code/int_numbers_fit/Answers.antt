use Rattle.cjc_int_selection.proofs.Numbers.{int_numbers_fit}
use Rattle.cjc_int_selection.proofs.code.int_numbers_fit.Goals as goal

pub returns : goal.returns
returns c = int_numbers_fit
