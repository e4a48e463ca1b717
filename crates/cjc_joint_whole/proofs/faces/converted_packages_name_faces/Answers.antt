use Rattle.cjc_shape_proof.proofs.WrittenLaws.OfFiles.{is_of_files}
use Rattle.cjc_joint_whole.proofs.WholeLaws.CodeFaces.{faces_named}
use Rattle.cjc_joint_whole.proofs.faces.converted_packages_name_faces.Goals as goal

pub returns : goal.returns
returns c = λ list files judged p is. faces_named list judged.codes p (is_of_files list files judged p is)
