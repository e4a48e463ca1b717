use Rattle.cjc_shrink.proofs.Callees.{call_written}
use Rattle.cjc_shrink.proofs.calls_are_written.Goals as goal

pub returns : goal.returns
returns c = call_written
