use Rattle.cjc_solid_laws.proofs.Solid.{solid}
use Rattle.cjc_solid_laws.proofs.clean_packages_are_solid.Goals as goal

pub returns : goal.returns
returns c = solid
