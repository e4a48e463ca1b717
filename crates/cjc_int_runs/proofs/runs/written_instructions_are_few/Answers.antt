use Rattle.cjc_int_runs.proofs.Bounds.{at_most_767}
use Rattle.cjc_int_runs.proofs.runs.written_instructions_are_few.Goals as goal

pub returns : goal.returns
returns c = at_most_767
