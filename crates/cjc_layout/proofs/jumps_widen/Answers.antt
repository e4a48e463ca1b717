use Rattle.std.proofs.Common.{refl}
use Rattle.cjc_ncode.specs.LowerCapRead.Opcodes.{form, forms}
use Rattle.cjc_layout.proofs.jumps_widen.Goals as goal

pub returns-clause-both_narrow : goal.returns-clause-both_narrow
unfolding form forms
returns-clause-both_narrow c = refl

pub returns-clause-one_wide : goal.returns-clause-one_wide
unfolding form forms
returns-clause-one_wide c = refl

pub returns-clause-both_wide : goal.returns-clause-both_wide
unfolding form forms
returns-clause-both_wide c = refl
