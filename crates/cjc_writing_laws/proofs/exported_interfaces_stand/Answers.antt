use Rattle.cjc_writing_laws.proofs.Interfaces.{interfaces_stand}
use Rattle.cjc_writing_laws.proofs.exported_interfaces_stand.Goals as goal

pub returns : goal.returns
returns c = λ list files judged p is. interfaces_stand list files judged p is
