use Rattle.cjc_world_proof.proofs.InitialisersLaws.Packages.{all-of-package}
use Rattle.cjc_world_proof.proofs.initialisers.packages_run.Goals as goal

pub returns : goal.returns
returns c = all-of-package
