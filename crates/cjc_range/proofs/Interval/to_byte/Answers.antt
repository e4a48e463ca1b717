use Rattle.cjc_range.proofs.Spans.{to_byte_holds}
use Rattle.cjc_range.proofs.Interval.to_byte.Goals as goal

pub returns-clause-holds : goal.returns-clause-holds
returns-clause-holds c x h = rw c.clipped_to.ensures (to_byte_holds c.args.self x h)
