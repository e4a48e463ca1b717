use Rattle.cjc_written_calls.proofs.Objects.{objects_alike}
use Rattle.cjc_written_calls.proofs.calls_take_objects_alike.Goals as goal

pub returns : goal.returns
returns c = objects_alike
