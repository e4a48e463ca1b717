use Rattle.cjc_int_runs.proofs.Begins.{method_begins}
use Rattle.cjc_int_runs.proofs.rows.methods_begin_alike.Goals as goal

pub returns : goal.returns
returns c = method_begins
