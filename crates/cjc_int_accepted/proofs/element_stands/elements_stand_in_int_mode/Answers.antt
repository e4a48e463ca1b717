use Rattle.cjc_int_accepted.proofs.ElementsStandLaws.{element_stands}
use Rattle.cjc_int_accepted.proofs.element_stands.elements_stand_in_int_mode.Goals as goal

pub returns : goal.returns
returns c = element_stands
