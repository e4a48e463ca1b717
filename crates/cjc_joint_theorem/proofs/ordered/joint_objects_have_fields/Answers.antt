use Rattle.cjc_joint_theorem.proofs.OrderedLaws.Fields.{no_array, not_abroad, objects_have}
use Rattle.cjc_joint_theorem.proofs.ordered.joint_objects_have_fields.Goals as goal

pub returns-clause-fields : goal.returns-clause-fields
returns-clause-fields c = objects_have

pub returns-clause-own : goal.returns-clause-own
returns-clause-own c = not_abroad

pub returns-clause-arrays : goal.returns-clause-arrays
returns-clause-arrays c = no_array
