use Rattle.cjc_token_proof.specs.NCode.Lowering.Agreement.{known_by}
use Rattle.cjc_joint_proof.specs.JointAlike.{IsCalled}
use Rattle.cjc_joint_proof.proofs.JointCodeLaws.{known_in}
use Rattle.cjc_joint_proof.proofs.code.operations_are_known_together.Goals as goal

pub returns : goal.returns
returns c = λ known called q operation. known_in (known_by known) (IsCalled called) q operation
