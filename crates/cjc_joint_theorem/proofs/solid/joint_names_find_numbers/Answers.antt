use Rattle.cjc_joint_theorem.proofs.MembersLaws.Solid.{numbered, own_file}
use Rattle.cjc_joint_theorem.proofs.solid.joint_names_find_numbers.Goals as goal

pub returns-clause-numbered : goal.returns-clause-numbered
returns-clause-numbered c = numbered

pub returns-clause-own : goal.returns-clause-own
returns-clause-own c = own_file
