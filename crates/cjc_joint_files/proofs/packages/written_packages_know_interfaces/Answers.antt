use Rattle.cjc_joint_files.proofs.FilesLaws.Grouping.{keeps}
use Rattle.cjc_joint_files.proofs.FilesLaws.KnownAbove.{interfaces_known}
use Rattle.cjc_joint_files.proofs.packages.written_packages_know_interfaces.Goals as goal

pub returns : goal.returns
returns c = λ packages are fair. (let rules = keeps packages are fair in
    interfaces_known packages rules (c.packages_that_keep_rules_are_linked.ensures.linked packages rules) are.known)
