use Rattle.cjc_int_runs.proofs.Thrown.{int_throw}
use Rattle.cjc_int_runs.proofs.calls.throws_agree.Goals as goal

pub returns : goal.returns
returns c = int_throw
