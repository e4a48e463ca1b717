use Rattle.cjc_joint_proof.proofs.LoadLaws.{leads_inside, leads_outside}
use Rattle.cjc_joint_proof.proofs.loading.imports_lead_to_classes.Goals as goal

pub returns-clause-inside : goal.returns-clause-inside
returns-clause-inside c = leads_inside

pub returns-clause-outside : goal.returns-clause-outside
returns-clause-outside c = leads_outside
