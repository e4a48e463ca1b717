use Rattle.cjc_joint_proof.proofs.NameLaws.{called_same, name_same}
use Rattle.cjc_joint_proof.proofs.names.scripts_name_the_same.Goals as goal

pub returns-clause-classes : goal.returns-clause-classes
returns-clause-classes c = name_same

pub returns-clause-methods : goal.returns-clause-methods
returns-clause-methods c = called_same
