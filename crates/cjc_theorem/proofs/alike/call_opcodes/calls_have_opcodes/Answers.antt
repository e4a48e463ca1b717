use Rattle.cjc_theorem.proofs.AlikeLaws.CallOpcodes.Calls.{have_opcodes}
use Rattle.cjc_theorem.proofs.SoundRuns.Read.{read_files}
use Rattle.cjc_theorem.proofs.alike.call_opcodes.calls_have_opcodes.Goals as goal

pub returns : goal.returns
returns c = λ list files judged is. have_opcodes judged.world judged.codes is.judged_by.of_package
    (let r = read_files list files judged is in r.classes)
