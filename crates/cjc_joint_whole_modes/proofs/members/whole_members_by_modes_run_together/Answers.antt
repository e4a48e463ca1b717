use Rattle.cjc_joint_modes.proofs.MembersLaws.Joined.{are_converted, runs}
use Rattle.cjc_joint_whole_modes.proofs.WholeModes.Members.{are_members}
use Rattle.cjc_joint_whole_modes.proofs.WholeModes.Named.{names_stand}
use Rattle.cjc_joint_whole_modes.proofs.WholeModes.Scripted.{scripted}
use Rattle.cjc_joint_whole_modes.proofs.members.whole_members_by_modes_run_together.Goals as goal

pub returns-clause-converted : goal.returns-clause-converted
returns-clause-converted c = λ members modes first at is tell. are_converted members modes (are_members members modes is)
    (names_stand members modes is tell) first at (scripted members modes is)

pub returns-clause-runs : goal.returns-clause-runs
returns-clause-runs c = λ members modes first at is tell script. runs members modes (are_members members modes is)
    (names_stand members modes is tell) first at (scripted members modes is) script
