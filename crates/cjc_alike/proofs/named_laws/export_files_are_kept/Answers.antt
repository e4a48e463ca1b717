use Rattle.cjc_alike.proofs.NamedLaws.Exports.{exports_keep}
use Rattle.cjc_alike.proofs.named_laws.export_files_are_kept.Goals as goal
use Rattle.cjc_written_laws.proofs.Files.{files_sound}

pub returns : goal.returns
returns c = λ list files judged p is. exports_keep list.name p (files_sound list files judged p is) is.exports is.plain
