use Rattle.cjc_joint_proof.proofs.ClassLaws.{class_means, name_means}
use Rattle.cjc_joint_proof.proofs.classes.classes_mean_their_names.Goals as goal

pub returns-clause-refs : goal.returns-clause-refs
returns-clause-refs c = class_means

pub returns-clause-names : goal.returns-clause-names
returns-clause-names c = name_means
