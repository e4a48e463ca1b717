use Rattle.cjc_joint_whole.proofs.WholeLaws.AboveImplementing.{implements}
use Rattle.cjc_joint_whole.proofs.implementing.grouped_packages_are_implemented.Goals as goal

pub returns : goal.returns
returns c = λ packages rules order small. implements packages rules.unbroken order small
