use Rattle.std.proofs.Common.{rules}
use Rattle.cjc_range.proofs.Order.{held_wider, join_left, join_right}
use Rattle.cjc_range.proofs.Interval.join.Goals as goal

pub returns-clause-row : goal.returns-clause-row
returns-clause-row c = search rules

pub returns-clause-left : goal.returns-clause-left
returns-clause-left c x h = rw (returns-clause-row c) (held_wider c.args.self _ x (join_left c.args.self c.args.other)
    h)

pub returns-clause-right : goal.returns-clause-right
returns-clause-right c x h = rw (returns-clause-row c) (held_wider c.args.other _ x (join_right c.args.self
    c.args.other) h)
