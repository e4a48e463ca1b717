use Rattle.cjc_range.proofs.Order.{held_wider, within_from, low_held, high_held}
use Rattle.cjc_range.proofs.laws.wider_holds_more.Goals as goal

pub returns-clause-wider : goal.returns-clause-wider
returns-clause-wider c = held_wider

pub returns-clause-only : goal.returns-clause-only
returns-clause-only c = λ s t w all. within_from s t (all s.low (low_held s w)) (all s.high (high_held s w))
