use Rattle.cjc_range.proofs.Order.{join_left, join_right, join_least}
use Rattle.cjc_range.proofs.laws.join_is_least.Goals as goal

pub returns-clause-left : goal.returns-clause-left
returns-clause-left c = join_left

pub returns-clause-right : goal.returns-clause-right
returns-clause-right c = join_right

pub returns-clause-least : goal.returns-clause-least
returns-clause-least c = join_least
