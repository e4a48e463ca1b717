use Rattle.cjc_joint_proof.proofs.OutsideLaws.{no_package, outside_kept, package_at}
use Rattle.cjc_joint_proof.proofs.loading.packages_are_numbered.Goals as goal

pub returns-clause-inside : goal.returns-clause-inside
returns-clause-inside c = package_at

pub returns-clause-none : goal.returns-clause-none
returns-clause-none c = no_package

pub returns-clause-outside : goal.returns-clause-outside
returns-clause-outside c = outside_kept
