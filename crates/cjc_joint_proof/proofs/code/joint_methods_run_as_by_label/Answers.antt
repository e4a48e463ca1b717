use Rattle.cjc_joint_proof.proofs.JointCodeLaws.{code_runs_agree, code_runs_stick_alike}
use Rattle.cjc_joint_proof.proofs.code.joint_methods_run_as_by_label.Goals as goal

pub returns-clause-reports : goal.returns-clause-reports
returns-clause-reports c = code_runs_agree

pub returns-clause-sticks : goal.returns-clause-sticks
returns-clause-sticks c = code_runs_stick_alike
