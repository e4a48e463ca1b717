use Rattle.cjc_joint_theorem.proofs.AskedLaws.{runs_in_package}
use Rattle.cjc_joint_theorem.proofs.asked.asked_code_runs_in_packages.Goals as goal

pub returns : goal.returns
returns c = λ group image one other same script n free. runs_in_package group image one other same script n free
