use Rattle.cjc_joint_proof.proofs.ExportLaws.{by_token, in_export}
use Rattle.cjc_joint_proof.proofs.exports.exports_have_one_order.Goals as goal

pub returns-clause-file : goal.returns-clause-file
returns-clause-file c = by_token

pub returns-clause-component : goal.returns-clause-component
returns-clause-component c = in_export
