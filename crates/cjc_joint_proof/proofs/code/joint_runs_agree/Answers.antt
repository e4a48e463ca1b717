use Rattle.cjc_token_proof.specs.NCode.Lowering.Agreement.{known_by}
use Rattle.cjc_joint_proof.specs.JointAlike.{IsCalled}
use Rattle.cjc_joint_proof.proofs.JointAlikeLaws.{placed_runs_agree}
use Rattle.cjc_joint_proof.proofs.JointCodeLaws.{as_by_label}
use Rattle.cjc_joint_proof.proofs.code.joint_runs_agree.Goals as goal

pub returns-clause-placed : goal.returns-clause-placed
returns-clause-placed c = λ g placed memories l calls known called. placed_runs_agree g placed memories l calls
    (known_by known) (IsCalled called)

pub returns-clause-labels : goal.returns-clause-labels
returns-clause-labels c = λ g placed memories l labels places known called. as_by_label g placed memories l labels
    places (known_by known) (IsCalled called)
