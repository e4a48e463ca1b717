use Rattle.cjc_joint_proof.proofs.NamedLaws.{names_outside, names_shared, own_method_is_named}
use Rattle.cjc_joint_proof.proofs.calls.fixed_methods_are_named.Goals as goal

pub returns-clause-own : goal.returns-clause-own
returns-clause-own c = own_method_is_named

pub returns-clause-outside : goal.returns-clause-outside
returns-clause-outside c = names_outside

pub returns-clause-shared : goal.returns-clause-shared
returns-clause-shared c = names_shared
