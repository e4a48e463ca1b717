use Rattle.std.proofs.Common.{Result, Ok, Err}
use Rattle.cjc_cmd_check.proofs.FolderLaws.Files.{read_found, read_refused}
use Rattle.cjc_cmd_check.proofs.folder.trees.component_in.Goals as goal

pub returns-clause-found : goal.returns-clause-found
returns-clause-found c = read_found c.args.tag c.args.bytes.now c.read.result c.read.ensures.found

pub returns-clause-refused : goal.returns-clause-refused
returns-clause-refused c = read_refused c.args.tag c.args.bytes.now c.file_name.result.now c.read.result
    c.file_name.ensures c.read.ensures.refused
