use Rattle.cjc_joint_proof.proofs.PartLaws.{refs_agree, superclasses_agree}
use Rattle.cjc_joint_proof.proofs.parts.class_refs_agree.Goals as goal

pub returns-clause-refs : goal.returns-clause-refs
returns-clause-refs c = refs_agree

pub returns-clause-superclass : goal.returns-clause-superclass
returns-clause-superclass c = superclasses_agree
