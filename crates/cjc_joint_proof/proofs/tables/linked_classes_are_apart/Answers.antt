use Rattle.cjc_joint_proof.proofs.ApartLaws.{apart_outside, packages_apart}
use Rattle.cjc_joint_proof.proofs.tables.linked_classes_are_apart.Goals as goal

pub returns-clause-own : goal.returns-clause-own
returns-clause-own c = packages_apart

pub returns-clause-outside : goal.returns-clause-outside
returns-clause-outside c = apart_outside
