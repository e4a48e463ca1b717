use Rattle.std.proofs.Common.{refl}
use Rattle.cjc_ncode.specs.LowerCapRead.Opcodes.{form, forms}
use Rattle.cjc_layout.proofs.places_are_sums.Goals as goal

pub returns-clause-sizes : goal.returns-clause-sizes
unfolding form forms
returns-clause-sizes c = refl

pub returns-clause-looks_up : goal.returns-clause-looks_up
unfolding form forms
returns-clause-looks_up c = refl

pub returns-clause-leaps : goal.returns-clause-leaps
unfolding form forms
returns-clause-leaps c = refl

pub returns-clause-narrow : goal.returns-clause-narrow
unfolding form forms
returns-clause-narrow c = refl

pub returns-clause-narrow_distance : goal.returns-clause-narrow_distance
unfolding form forms
returns-clause-narrow_distance c = refl

pub returns-clause-wide : goal.returns-clause-wide
unfolding form forms
returns-clause-wide c = refl

pub returns-clause-wide_distance : goal.returns-clause-wide_distance
unfolding form forms
returns-clause-wide_distance c = refl
