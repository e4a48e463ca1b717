use Rattle.cjc_int_alike.proofs.Package.{package_fine}
use Rattle.cjc_int_alike.proofs.packages.packages_are_fine_by_modes.Goals as goal

pub returns : goal.returns
returns c = package_fine
