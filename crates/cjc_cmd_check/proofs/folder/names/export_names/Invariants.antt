use Rattle.std.proofs.Common.{◌≡◌, ◌++◌}
use Rattle.cjc_cmd_check.specs.Folder.Reads.{export_names}
use Rattle.cjc_cmd_check.proofs.FolderLaws.Along.{names_from}
use Rattle.cjc_cmd_check.proofs.folder.names.export_names.Given as goal

abbrev pub invariant-loop-line : goal.invariant-loop-line
invariant-loop-line l = l.names ++ names_from l.line-index l.lines ≡ export_names l.lines
