use Rattle.cjc_joint_files.proofs.FilesLaws.Whole.{are_members, are_whole, members_from}
use Rattle.cjc_joint_files.proofs.packages.written_packages_are_whole.Goals as goal

pub returns : goal.returns
returns c = λ packages are fair implemented. (
  members_from c.least_ranges_exist.ensures packages are.each,
  are_members c.least_ranges_exist.ensures packages are.each,
  are_whole c.least_ranges_exist.ensures packages are.each fair (c.written_packages_are_grouped.ensures.together
      packages are fair) c.whole_packages_run_alike.ensures.first implemented,
)
