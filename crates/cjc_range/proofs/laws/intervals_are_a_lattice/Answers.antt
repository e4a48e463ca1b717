use Rattle.cjc_range.proofs.Order.{within_refl, within_trans, within_both, join_word, join_left, join_right, join_least}
use Rattle.cjc_range.proofs.Order.{width_up, width_rises, width_small}
use Rattle.cjc_range.proofs.laws.intervals_are_a_lattice.Goals as goal

pub returns-clause-reflexive : goal.returns-clause-reflexive
returns-clause-reflexive c = within_refl

pub returns-clause-transitive : goal.returns-clause-transitive
returns-clause-transitive c = within_trans

pub returns-clause-equal : goal.returns-clause-equal
returns-clause-equal c = within_both

pub returns-clause-own_join : goal.returns-clause-own_join
returns-clause-own_join c = join_word

pub returns-clause-above_left : goal.returns-clause-above_left
returns-clause-above_left c = join_left

pub returns-clause-above_right : goal.returns-clause-above_right
returns-clause-above_right c = join_right

pub returns-clause-least : goal.returns-clause-least
returns-clause-least c = join_least

pub returns-clause-ranked : goal.returns-clause-ranked
returns-clause-ranked c = width_up

pub returns-clause-rises : goal.returns-clause-rises
returns-clause-rises c = width_rises

pub returns-clause-bounded : goal.returns-clause-bounded
returns-clause-bounded c = width_small
