use Rattle.cjc_shape_proof.proofs.WrittenLaws.Checked.{read_files}
use Rattle.cjc_theorem.proofs.AlikeLaws.CallOpcodes.Calls.{have_opcodes}
use Rattle.cjc_theorem.proofs.alike.call_opcodes.calls_of_files_have_opcodes.Goals as goal

pub returns : goal.returns
returns c = λ list codes p is. have_opcodes p.files codes is.of_package (let r = read_files list codes p is
    in r.classes)
