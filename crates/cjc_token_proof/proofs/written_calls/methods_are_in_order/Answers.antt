use Rattle.cjc_token_proof.proofs.WrittenCalls.Written.{methods_are}
use Rattle.cjc_token_proof.proofs.written_calls.methods_are_in_order.Goals as goal

pub returns : goal.returns
returns g c = λ list files codes rows p is. methods_are list files codes rows p is
