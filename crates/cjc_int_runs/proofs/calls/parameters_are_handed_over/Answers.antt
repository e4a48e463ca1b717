use Rattle.cjc_int_runs.proofs.HandOver.{hands_over}
use Rattle.cjc_int_runs.proofs.calls.parameters_are_handed_over.Goals as goal

pub returns : goal.returns
returns c = hands_over
