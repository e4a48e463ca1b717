use Rattle.cjc_int_runs.proofs.Echo.{echo_is_written, echo_is_typed}
use Rattle.cjc_int_runs.proofs.worked.an_echo_is_written_and_typed.Goals as goal

pub returns-clause-written : goal.returns-clause-written
returns-clause-written c = echo_is_written

pub returns-clause-typed : goal.returns-clause-typed
returns-clause-typed c = echo_is_typed
