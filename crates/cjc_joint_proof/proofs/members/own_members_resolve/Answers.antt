use Rattle.cjc_joint_proof.proofs.MemberLaws.{call_resolves, field_resolves, method_resolves}
use Rattle.cjc_joint_proof.proofs.members.own_members_resolve.Goals as goal

pub returns-clause-fields : goal.returns-clause-fields
returns-clause-fields c = field_resolves

pub returns-clause-methods : goal.returns-clause-methods
returns-clause-methods c = method_resolves

pub returns-clause-calls : goal.returns-clause-calls
returns-clause-calls c = call_resolves
