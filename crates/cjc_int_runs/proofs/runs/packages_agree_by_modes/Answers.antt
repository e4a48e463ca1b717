use Rattle.cjc_int_runs.proofs.Packages.{package_agrees}
use Rattle.cjc_int_runs.proofs.runs.packages_agree_by_modes.Goals as goal

pub returns : goal.returns
returns c = package_agrees
