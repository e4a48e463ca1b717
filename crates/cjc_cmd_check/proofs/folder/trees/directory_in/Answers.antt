use Rattle.std.proofs.Common.{sym, ◌∙◌}
use Rattle.cjc_cmd_check.proofs.FolderLaws.Files.{says_directory}
use Rattle.cjc_cmd_check.proofs.folder.trees.directory_in.Goals as goal

pub unreachable-requires : goal.unreachable-requires
unreachable-requires c = says_directory c.args.bytes.now _ c.in_ok-component_in.ensures.found
    (sym c.into_directory.ensures ∙ c.in-None.is)
