use Rattle.cjc_joint_files.proofs.FilesLaws.Few.{few_together}
use Rattle.cjc_joint_files.proofs.implemented.written_packages_are_implemented.Goals as goal

pub returns : goal.returns
returns c = λ packages are fair small.
    let laws = c.written_packages_are_grouped.ensures in
    let grouped = laws.grouped packages are fair in
    let select = laws.together packages are fair in
    c.grouped_packages_are_implemented.ensures packages grouped.keeps select.ordered (few_together packages are.each small)
