use Rattle.cjc_joint_modes.proofs.MembersLaws.Joined.{are_converted, runs}
use Rattle.cjc_joint_modes.proofs.members.members_by_modes_run_together.Goals as goal

pub returns-clause-converted : goal.returns-clause-converted
returns-clause-converted c = λ members modes first at is rest scripted.
    are_converted members modes is rest first at scripted

pub returns-clause-runs : goal.returns-clause-runs
returns-clause-runs c = λ members modes first at is rest scripted script.
    runs members modes is rest first at scripted script
