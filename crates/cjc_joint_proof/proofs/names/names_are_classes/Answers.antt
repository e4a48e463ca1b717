use Rattle.cjc_joint_proof.proofs.NameLaws.{class_in_file, class_inside, class_outside}
use Rattle.cjc_joint_proof.proofs.names.names_are_classes.Goals as goal

pub returns-clause-inside : goal.returns-clause-inside
returns-clause-inside c = class_inside

pub returns-clause-outside : goal.returns-clause-outside
returns-clause-outside c = class_outside

pub returns-clause-files : goal.returns-clause-files
returns-clause-files c = class_in_file
