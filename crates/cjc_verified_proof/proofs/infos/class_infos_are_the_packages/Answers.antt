use Rattle.cjc_verified_proof.proofs.InfoLaws.{class_is}
use Rattle.cjc_verified_proof.proofs.infos.class_infos_are_the_packages.Goals as goal

pub returns : goal.returns
returns c = class_is
