use Rattle.std.proofs.Common.{sym, ◌∙◌}
use Rattle.cjc_cmd_check.proofs.FolderLaws.Files.{says_header}
use Rattle.cjc_cmd_check.proofs.folder.trees.header_in.Goals as goal

pub unreachable-requires : goal.unreachable-requires
unreachable-requires c = says_header c.args.bytes.now _ c.in_ok-component_in.ensures.found (sym c.into_header.ensures
    ∙ c.in-None.is)
