use Rattle.std.specs.Prelude.{length}
use Rattle.cjc_intervals.specs.Flow.{range_flow}
use Rattle.cjc_intervals.proofs.Flow.{range_laws}
use Rattle.cjc_intervals.proofs.RangeLaws.Least.{least_exists}
use Rattle.cjc_intervals.proofs.RangeLaws.Stays.{range_flow_stays}
use Rattle.cjc_intervals.proofs.range_laws.least_ranges_exist.Goals as goal

pub returns : goal.returns
returns c = λ b constant types. least_exists (range_flow b constant types) (length b.insns) (range_laws b constant
    types) (range_flow_stays b constant types)
