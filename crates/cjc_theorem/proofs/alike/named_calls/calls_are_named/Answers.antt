use Rattle.cjc_shape_proof.proofs.WrittenLaws.OfFiles.{is_of_files}
use Rattle.cjc_theorem.proofs.alike.named_calls.calls_are_named.Goals as goal

pub returns : goal.returns
returns c = λ list files judged p is. c.calls_of_files_are_named.ensures list judged.codes p (is_of_files list files
    judged p is) (c.calls_have_opcodes.ensures list files judged is.sound)
