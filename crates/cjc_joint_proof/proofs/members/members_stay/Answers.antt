use Rattle.cjc_joint_proof.proofs.MemberLaws.{constant_stays, field_hit_moves, method_hit_moves, method_stays}
use Rattle.cjc_joint_proof.proofs.members.members_stay.Goals as goal

pub returns-clause-methods : goal.returns-clause-methods
returns-clause-methods c = method_stays

pub returns-clause-constants : goal.returns-clause-constants
returns-clause-constants c = constant_stays

pub returns-clause-method_hits : goal.returns-clause-method_hits
returns-clause-method_hits c = method_hit_moves

pub returns-clause-field_hits : goal.returns-clause-field_hits
returns-clause-field_hits c = field_hit_moves
