use Rattle.std.proofs.Common.{refl}
use Rattle.cjc_clinit_laws.proofs.Initialisers.{initialiser}
use Rattle.cjc_clinit_laws.proofs.initialisers_run.Goals as goal

pub returns : goal.returns
returns c = λ files image number class m locals before after puts store there own roomy is cells. initialiser files image number class m locals there own before after _ puts is 0 store refl cells roomy
