use Rattle.cjc_clinit_laws.proofs.Packages.{all-of-package}
use Rattle.cjc_clinit_laws.proofs.packages_run.Goals as goal

pub returns : goal.returns
returns c = all-of-package
