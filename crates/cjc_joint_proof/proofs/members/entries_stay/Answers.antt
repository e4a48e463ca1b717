use Rattle.cjc_joint_proof.proofs.MemberLaws.{entry_named_stays}
use Rattle.cjc_joint_proof.proofs.members.entries_stay.Goals as goal

pub returns : goal.returns
returns c = entry_named_stays
