use Rattle.cjc_joint_proof.proofs.ReferLaws.{imported_ref, outside_ref, own_ref}
use Rattle.cjc_joint_proof.proofs.exports.class_refs_lead_by_name.Goals as goal

pub returns-clause-own : goal.returns-clause-own
returns-clause-own c = own_ref

pub returns-clause-imported : goal.returns-clause-imported
returns-clause-imported c = imported_ref

pub returns-clause-outside : goal.returns-clause-outside
returns-clause-outside c = outside_ref
