use Rattle.cjc_int_theorem.proofs.Behaves.{behaves}
use Rattle.cjc_int_theorem.proofs.alike.passed_packages_behave_by_modes.Goals as goal

pub returns : goal.returns
returns c = behaves
