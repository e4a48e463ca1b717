use Rattle.std.proofs.Common.{refl}
use Rattle.std.specs.Int.{int_wrap}
use Rattle.cjc_ncode.proofs.methods_are_written.Goals as goal

pub returns-clause-plain : goal.returns-clause-plain
unfolding int_wrap
returns-clause-plain c = refl

pub returns-clause-catches : goal.returns-clause-catches
unfolding int_wrap
returns-clause-catches c = refl

pub returns-clause-jumps : goal.returns-clause-jumps
unfolding int_wrap
returns-clause-jumps c = refl

pub returns-clause-pair : goal.returns-clause-pair
unfolding int_wrap
returns-clause-pair c = refl
