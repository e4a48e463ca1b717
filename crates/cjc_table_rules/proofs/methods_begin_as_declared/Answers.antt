use Rattle.cjc_table_rules.proofs.Begins.{begins}
use Rattle.cjc_table_rules.proofs.methods_begin_as_declared.Goals as goal

pub returns : goal.returns
returns c = begins
