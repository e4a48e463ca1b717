use Rattle.std.proofs.Common.{◌≡◌, map, take}
use Rattle.cjc_cmd_check.specs.Folder.Reads.{component_name}
use Rattle.cjc_cmd_check.proofs.folder.names.component_names.Given as goal

abbrev pub invariant-loop-tag : goal.invariant-loop-tag
invariant-loop-tag l = l.names ≡ map (component_name l.dir) (take l.tag-index l.tags)
