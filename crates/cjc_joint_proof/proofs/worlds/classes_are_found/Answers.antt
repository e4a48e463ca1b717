use Rattle.cjc_joint_proof.proofs.WorldLaws.{nothing_else, outside_at_number, outside_is_found, own_at_number}
use Rattle.cjc_joint_proof.proofs.WorldLaws.{own_is_found}
use Rattle.cjc_joint_proof.proofs.worlds.classes_are_found.Goals as goal

pub returns-clause-own : goal.returns-clause-own
returns-clause-own c = own_is_found

pub returns-clause-own_number : goal.returns-clause-own_number
returns-clause-own_number c = own_at_number

pub returns-clause-outside : goal.returns-clause-outside
returns-clause-outside c = outside_is_found

pub returns-clause-outside_number : goal.returns-clause-outside_number
returns-clause-outside_number c = outside_at_number

pub returns-clause-no_other : goal.returns-clause-no_other
returns-clause-no_other c = nothing_else
