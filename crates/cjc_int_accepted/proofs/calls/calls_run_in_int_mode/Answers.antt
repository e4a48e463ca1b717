use Rattle.cjc_int_accepted.proofs.RowsLaws.Calls.{call_runs}
use Rattle.cjc_int_accepted.proofs.calls.calls_run_in_int_mode.Goals as goal

pub returns : goal.returns
returns c = call_runs
