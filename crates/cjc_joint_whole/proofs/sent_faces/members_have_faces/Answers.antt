use Rattle.cjc_joint_whole.proofs.WholeLaws.SentFacesWhole.{faces_stand}
use Rattle.cjc_joint_whole.proofs.sent_faces.members_have_faces.Goals as goal

pub returns : goal.returns
returns c = λ members packages is tell same sends. faces_stand members is tell packages same sends
