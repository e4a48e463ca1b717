use Rattle.std.proofs.Common.{refl}
use Rattle.cjc_joint_proof.specs.JointNames.{joint_named}
use Rattle.cjc_joint_proof.specs.JointPackages.{files_together}
use Rattle.cjc_joint_proof.proofs.TabledLaws.{tables_agree}
use Rattle.cjc_joint_proof.proofs.tables.joint_class_tables_agree.Goals as goal

pub returns : goal.returns
unfolding joint_named
returns c = λ packages image code first here linked keep begun q.
    tables_agree packages linked keep begun first here (joint_named (files_together packages) image code) image code refl
    q
