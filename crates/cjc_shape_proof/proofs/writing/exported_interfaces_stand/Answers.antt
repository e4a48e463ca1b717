use Rattle.cjc_shape_proof.proofs.WritingLaws.Interfaces.{interfaces_stand}
use Rattle.cjc_shape_proof.proofs.writing.exported_interfaces_stand.Goals as goal

pub returns : goal.returns
returns c = λ list files judged p is. interfaces_stand list files judged p is
