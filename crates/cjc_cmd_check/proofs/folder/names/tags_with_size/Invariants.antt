use Rattle.std.proofs.Common.{◌≡◌, ◌++◌}
use Rattle.cjc_cmd_check.specs.Folder.Reads.{tags_with_size}
use Rattle.cjc_cmd_check.proofs.FolderLaws.Along.{tags_from}
use Rattle.cjc_cmd_check.proofs.folder.names.tags_with_size.Given as goal

abbrev pub invariant-loop-tag : goal.invariant-loop-tag
invariant-loop-tag l = l.tags ++ tags_from l.sizes l.tag ≡ tags_with_size l.sizes
