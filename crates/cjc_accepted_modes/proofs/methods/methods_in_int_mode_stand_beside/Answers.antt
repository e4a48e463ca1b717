use Rattle.cjc_accepted_modes.proofs.MethodsLaws.{stands_beside}
use Rattle.cjc_accepted_modes.proofs.methods.methods_in_int_mode_stand_beside.Goals as goal

pub returns : goal.returns
returns c = λ list codes t p is k laid is_laid in_mode. stands_beside list codes t p is k laid is_laid in_mode
