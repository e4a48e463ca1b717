use Rattle.cjc_verified_proof.proofs.NamingLaws.{kinds}
use Rattle.cjc_verified_proof.proofs.infos.classes_are_named.Goals as goal

pub returns : goal.returns
returns c = kinds
