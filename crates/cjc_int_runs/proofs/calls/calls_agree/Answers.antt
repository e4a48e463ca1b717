use Rattle.cjc_int_runs.proofs.HandOver.{int_call}
use Rattle.cjc_int_runs.proofs.calls.calls_agree.Goals as goal

pub returns : goal.returns
returns c = int_call
