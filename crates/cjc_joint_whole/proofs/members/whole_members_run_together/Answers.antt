use Rattle.cjc_joint_theorem.proofs.MembersLaws.Joined.{runs}
use Rattle.cjc_joint_whole.proofs.WholeLaws.Joined.{names_stand}
use Rattle.cjc_joint_whole.proofs.WholeLaws.Members.{are_members}
use Rattle.cjc_joint_whole.proofs.WholeLaws.Scripted.{scripted}
use Rattle.cjc_joint_whole.proofs.WholeLaws.ToldCalls.{selections_stand}
use Rattle.cjc_joint_whole.proofs.members.whole_members_run_together.Goals as goal

pub returns : goal.returns
returns c = λ members first at is tell script. runs members (are_members members is)
    (names_stand members is (selections_stand members is tell)) first at (scripted members is) script
