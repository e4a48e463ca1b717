use Rattle.cjc_int_selection.proofs.Constants.{constants_fit}
use Rattle.cjc_int_selection.proofs.code.constants_of_fields_fit_int_mode.Goals as goal

pub returns : goal.returns
returns c = λ files classes exports near holder g z. constants_fit files classes exports z near holder g
