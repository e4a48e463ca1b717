use Rattle.cjc_verified_proof.proofs.SupersLaws.{supers_stand}
use Rattle.cjc_verified_proof.proofs.supers.supers_stand_before.Goals as goal

pub returns : goal.returns
returns c = supers_stand
