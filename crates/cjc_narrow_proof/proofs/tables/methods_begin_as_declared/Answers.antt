use Rattle.cjc_narrow_proof.proofs.TablesLaws.Begins.{begins}
use Rattle.cjc_narrow_proof.proofs.tables.methods_begin_as_declared.Goals as goal

pub returns : goal.returns
returns c = begins
