use Rattle.std.proofs.Common.{refl}
use Rattle.std.specs.Int.{int_wrap}
use Rattle.cjc_card_semantics.specs.Bytecode.Meanings.{meaning}
use Rattle.cjc_card_semantics.proofs.bytecode.words_move_on_the_stack.Goals as goal

pub returns-clause-dup_x_12 : goal.returns-clause-dup_x_12
unfolding int_wrap meaning
returns-clause-dup_x_12 c = refl

pub returns-clause-dup_x_23 : goal.returns-clause-dup_x_23
unfolding int_wrap meaning
returns-clause-dup_x_23 c = refl

pub returns-clause-dup_x_20 : goal.returns-clause-dup_x_20
unfolding int_wrap meaning
returns-clause-dup_x_20 c = refl

pub returns-clause-dup_x_21 : goal.returns-clause-dup_x_21
unfolding int_wrap meaning
returns-clause-dup_x_21 c = refl

pub returns-clause-dup_x_alone : goal.returns-clause-dup_x_alone
unfolding int_wrap meaning
returns-clause-dup_x_alone c = refl

pub returns-clause-swap_x_12 : goal.returns-clause-swap_x_12
unfolding int_wrap meaning
returns-clause-swap_x_12 c = refl

pub returns-clause-swap_x_30 : goal.returns-clause-swap_x_30
unfolding int_wrap meaning
returns-clause-swap_x_30 c = refl

pub returns-clause-dup2 : goal.returns-clause-dup2
unfolding int_wrap meaning
returns-clause-dup2 c = refl

pub returns-clause-pop2 : goal.returns-clause-pop2
unfolding int_wrap meaning
returns-clause-pop2 c = refl
