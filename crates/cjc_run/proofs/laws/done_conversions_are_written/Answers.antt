use Rattle.cjc_run.proofs.Leaving.{left_written}
use Rattle.cjc_run.proofs.laws.done_conversions_are_written.Goals as goal

pub returns : goal.returns
returns c = left_written
