use Rattle.std.proofs.Common.{refl}
use Rattle.std.specs.Int.{int_wrap}
use Rattle.cjc_card_semantics.specs.Bytecode.Meanings.{meaning}
use Rattle.cjc_card_semantics.proofs.bytecode.zero_divides_nothing.Goals as goal

pub returns-clause-sdiv : goal.returns-clause-sdiv
unfolding int_wrap meaning
returns-clause-sdiv c = λ room locals x stack. refl

pub returns-clause-srem : goal.returns-clause-srem
unfolding int_wrap meaning
returns-clause-srem c = λ room locals x stack. refl

pub returns-clause-idiv : goal.returns-clause-idiv
unfolding int_wrap meaning
returns-clause-idiv c = λ room locals high low stack. refl

pub returns-clause-irem : goal.returns-clause-irem
unfolding int_wrap meaning
returns-clause-irem c = λ room locals high low stack. refl
