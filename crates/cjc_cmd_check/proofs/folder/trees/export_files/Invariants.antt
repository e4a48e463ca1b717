use Rattle.std.proofs.Common.{◌≡◌, ◌++◌, drop}
use Rattle.cjc_cmd_check.specs.Folder.Breaks.{export_trees}
use Rattle.cjc_cmd_check.proofs.FolderLaws.Files.{AreLeftBy}
use Rattle.cjc_cmd_check.proofs.folder.trees.export_files.Given as goal

abbrev pub invariant-loop-at : goal.invariant-loop-at
invariant-loop-at l = (l.trees ++ export_trees (drop l.at l.files) ≡ export_trees l.files)
    × AreLeftBy l.names l.files l.at
