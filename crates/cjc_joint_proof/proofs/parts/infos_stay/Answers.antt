use Rattle.cjc_joint_proof.proofs.PartLaws.{infos_same, names_same}
use Rattle.cjc_joint_proof.proofs.parts.infos_stay.Goals as goal

pub returns-clause-infos : goal.returns-clause-infos
returns-clause-infos c = infos_same

pub returns-clause-names : goal.returns-clause-names
returns-clause-names c = names_same
