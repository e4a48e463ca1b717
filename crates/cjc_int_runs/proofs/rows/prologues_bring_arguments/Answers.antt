use Rattle.cjc_int_runs.proofs.Prologue.{brings}
use Rattle.cjc_int_runs.proofs.rows.prologues_bring_arguments.Goals as goal

pub returns : goal.returns
returns c = brings
