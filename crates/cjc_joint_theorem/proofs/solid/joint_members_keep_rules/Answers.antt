use Rattle.cjc_joint_theorem.proofs.MembersLaws.Solid.{coded, bound, fields_static}
use Rattle.cjc_joint_theorem.proofs.solid.joint_members_keep_rules.Goals as goal

pub returns-clause-coded : goal.returns-clause-coded
returns-clause-coded c = coded

pub returns-clause-bound : goal.returns-clause-bound
returns-clause-bound c = bound

pub returns-clause-fields : goal.returns-clause-fields
returns-clause-fields c = fields_static
