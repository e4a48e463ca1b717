use Rattle.cjc_joint_proof.proofs.LeadLaws.{all_lead}
use Rattle.cjc_joint_proof.proofs.classes.linked_imports_lead.Goals as goal

pub returns : goal.returns
returns c = all_lead
