use Rattle.cjc_shape_proof.proofs.WrittenLaws.Files.{own_image}
use Rattle.cjc_shape_proof.proofs.WrittenLaws.OfFiles.{is_of_files}
use Rattle.cjc_theorem.proofs.alike.insn_names.instructions_name_what_is_there.Goals as goal

pub returns : goal.returns
returns c = λ list files judged p is. c.instructions_of_files_name_what_is_there.ensures list judged.codes p
    (is_of_files list files judged p is) (own_image list files judged p is)
