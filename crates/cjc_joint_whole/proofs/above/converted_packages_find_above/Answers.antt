use Rattle.cjc_shape_proof.proofs.WrittenLaws.OfFiles.{is_of_files}
use Rattle.cjc_joint_whole.proofs.WholeLaws.CodeSupers.{finds_above}
use Rattle.cjc_joint_whole.proofs.above.converted_packages_find_above.Goals as goal

pub returns : goal.returns
returns c = λ list files judged p is keep. finds_above list judged.codes p (is_of_files list files judged p is)
    (c.calls_have_opcodes.ensures list files judged is.sound) keep
