use Rattle.cjc_cmd_check.proofs.FolderLaws.Ordered.{parts_behind, parts_below}
use Rattle.cjc_cmd_check.proofs.folder.laws.parts_between.Goals as goal

pub returns : goal.returns
returns c = λ parts b read among. let behind = parts_behind parts read.tags b among
    in (behind.0, behind.1, parts_below parts read.tags b among)
