use Rattle.std.proofs.Common.{refl}
use Rattle.cjc_check_proof.specs.CapRead.Opcodes.{form, forms}
use Rattle.cjc_int_components.proofs.worked.int_methods_are_emitted.Goals as goal

pub returns-clause-compares : goal.returns-clause-compares
unfolding form forms
returns-clause-compares c = refl

pub returns-clause-reads : goal.returns-clause-reads
unfolding form forms
returns-clause-reads c = refl

pub returns-clause-loops : goal.returns-clause-loops
unfolding form forms
returns-clause-loops c = refl
