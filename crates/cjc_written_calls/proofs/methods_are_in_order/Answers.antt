use Rattle.cjc_written_calls.proofs.Written.{methods_are}
use Rattle.cjc_written_calls.proofs.methods_are_in_order.Goals as goal

pub returns : goal.returns
returns g c = λ list files codes rows p is. methods_are list files codes rows p is
