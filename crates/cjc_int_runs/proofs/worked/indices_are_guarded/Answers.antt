use Rattle.std.proofs.Common.{refl}
use Rattle.std.specs.Int.{int_wrap}
use Rattle.cjc_card_semantics.specs.Bytecode.Meanings.{meaning}
use Rattle.cjc_ncode.specs.ByLabel.{by_label}
use Rattle.cjc_int_runs.proofs.worked.indices_are_guarded.Goals as goal

pub returns-clause-inside : goal.returns-clause-inside
unfolding int_wrap meaning by_label
returns-clause-inside c = refl

pub returns-clause-negative : goal.returns-clause-negative
unfolding int_wrap meaning by_label
returns-clause-negative c = refl

pub returns-clause-whole : goal.returns-clause-whole
unfolding int_wrap meaning by_label
returns-clause-whole c = refl

pub returns-clause-greatest : goal.returns-clause-greatest
unfolding int_wrap meaning by_label
returns-clause-greatest c = refl
