use Rattle.cjc_joint_proof.specs.JointNames.{joint_named}
use Rattle.cjc_joint_proof.proofs.RootedLaws.{things_are}
use Rattle.cjc_joint_proof.proofs.tables.joint_things_are_objects.Goals as goal

pub returns : goal.returns
unfolding joint_named
returns c = λ packages image code first here linked keep begun t known.
    things_are packages linked keep (λ q p at. let b = begun q p at in b.typed) first here t known
