use Rattle.cjc_joint_proof.proofs.LoadLaws.{is_part, no_other}
use Rattle.cjc_joint_proof.proofs.loading.packages_are_parts.Goals as goal

pub returns-clause-parts : goal.returns-clause-parts
returns-clause-parts c = is_part

pub returns-clause-no_other : goal.returns-clause-no_other
returns-clause-no_other c = no_other
