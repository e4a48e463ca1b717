use Rattle.cjc_theorem.proofs.AlikeLaws.NamedLaws.Exports.{exports_keep}
use Rattle.cjc_theorem.proofs.alike.named_laws.export_files_are_kept.Goals as goal
use Rattle.cjc_shape_proof.proofs.WrittenLaws.Files.{files_sound}

pub returns : goal.returns
returns c = λ list files judged p is. exports_keep list.name p (files_sound list files judged p is) is.exports is.plain
