use Rattle.cjc_verify_proof.proofs.CallLaws.{takes_arguments}
use Rattle.cjc_verify_proof.proofs.calls.calls_take_arguments.Goals as goal

pub returns : goal.returns
returns c = takes_arguments
