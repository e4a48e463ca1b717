use Rattle.cjc_joint_proof.proofs.MemberLaws.{own_field_moves, own_method_moves}
use Rattle.cjc_joint_proof.proofs.members.own_members_move.Goals as goal

pub returns-clause-methods : goal.returns-clause-methods
returns-clause-methods c = own_method_moves

pub returns-clause-fields : goal.returns-clause-fields
returns-clause-fields c = own_field_moves
