use Rattle.std.proofs.Common.{refl}
use Rattle.cjc_world_proof.proofs.InitialisersLaws.Initialisers.{initialiser}
use Rattle.cjc_world_proof.proofs.initialisers.initialisers_run.Goals as goal

pub returns : goal.returns
returns c = λ files image number class m locals before after puts store there own roomy is cells. initialiser files
    image number class m locals there own before after _ puts is 0 store refl cells roomy
