use Rattle.cjc_token_proof.proofs.WrittenCalls.Objects.{objects_alike}
use Rattle.cjc_token_proof.proofs.written_calls.calls_take_objects_alike.Goals as goal

pub returns : goal.returns
returns c = objects_alike
