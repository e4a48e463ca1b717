use Rattle.std.proofs.Common.{refl}
use Rattle.cjc_layout.specs.CapRead.Opcodes.{form, forms, op_info}
use Rattle.cjc_emit.proofs.worked_methods_are_emitted.Goals as goal

pub returns-clause-bytes : goal.returns-clause-bytes
unfolding form forms
returns-clause-bytes c = refl

pub returns-clause-fifteen : goal.returns-clause-fifteen
returns-clause-fifteen c = refl

pub returns-clause-sixteen : goal.returns-clause-sixteen
returns-clause-sixteen c = refl

pub returns-clause-ones : goal.returns-clause-ones
unfolding form forms op_info
returns-clause-ones c = refl

pub returns-clause-twos : goal.returns-clause-twos
unfolding form forms op_info
returns-clause-twos c = refl

pub returns-clause-behind : goal.returns-clause-behind
unfolding form forms op_info
returns-clause-behind c = refl
