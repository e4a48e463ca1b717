use Rattle.cjc_joint_proof.proofs.ExportLaws.{leads_by_name}
use Rattle.cjc_joint_proof.proofs.exports.imports_lead_by_name.Goals as goal

pub returns : goal.returns
returns c = leads_by_name
