use Rattle.cjc_shape_proof.proofs.WrittenLaws.OfFiles.{is_of_files}
use Rattle.cjc_theorem.proofs.alike.named_laws.names_are_there.Goals as goal

pub returns-clause-all : goal.returns-clause-all
returns-clause-all c = λ list files judged p is opcodes.
    let its = c.converted_methods_are_consistent.ensures in
    c.names_of_files_are_there.ensures list judged.codes p (is_of_files list files judged p is) opcodes
    (its.small list files judged p is) (its.kinds list files judged p is)

pub returns-clause-instructions : goal.returns-clause-instructions
returns-clause-instructions c = λ list files judged p is opcodes k m e j insn f.
    let its = c.converted_methods_are_consistent.ensures in
    (c.names_of_files_are_there.ensures list judged.codes p (is_of_files list files judged p is) opcodes
    (its.small list files judged p is) (its.kinds list files judged p is)).names k m e j insn f
