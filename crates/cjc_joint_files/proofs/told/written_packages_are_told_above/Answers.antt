use Rattle.cjc_joint_files.proofs.FilesLaws.ToldAbove.{told_above}
use Rattle.cjc_joint_files.proofs.told.written_packages_are_told_above.Goals as goal

pub returns : goal.returns
returns c = λ packages members are fair of. told_above packages fair members
    (c.written_packages_are_grouped.ensures.together packages are fair) of
