use Rattle.std.proofs.Common.{refl}
use Rattle.cjc_ncode.specs.LowerCapRead.Opcodes.{form, forms}
use Rattle.cjc_layout.proofs.handlers_are_ordered.Goals as goal

pub returns-clause-handlers : goal.returns-clause-handlers
unfolding form forms
returns-clause-handlers c = refl

pub returns-clause-sorted : goal.returns-clause-sorted
unfolding form forms
returns-clause-sorted c = refl

pub returns-clause-unbroken : goal.returns-clause-unbroken
unfolding form forms
returns-clause-unbroken c = refl

pub returns-clause-broken : goal.returns-clause-broken
unfolding form forms
returns-clause-broken c = refl
