use Rattle.cjc_intervals.proofs.Flow.{range_laws}
use Rattle.cjc_intervals.proofs.range_flow_laws.Goals as goal

pub returns : goal.returns
returns c = range_laws
