use Rattle.cjc_joint_modes.proofs.Runs.{runs_asked, runs_in_packages}
use Rattle.cjc_joint_modes.proofs.modes.packages_by_modes_run_together.Goals as goal

pub returns-clause-asked : goal.returns-clause-asked
returns-clause-asked c = runs_asked

pub returns-clause-in_packages : goal.returns-clause-in_packages
returns-clause-in_packages c = runs_in_packages
