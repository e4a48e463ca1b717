use Rattle.std.proofs.Common.{[]}
use Rattle.cjc_joint_proof.proofs.ForeignLaws.{constant_alone, constant_together, foreign_call, foreign_method}
use Rattle.cjc_joint_proof.proofs.members.foreign_members_resolve.Goals as goal

pub returns-clause-methods : goal.returns-clause-methods
returns-clause-methods c = foreign_method

pub returns-clause-calls : goal.returns-clause-calls
returns-clause-calls c = foreign_call

pub returns-clause-constants_alone : goal.returns-clause-constants_alone
returns-clause-constants_alone c = λ p id f hit z found is value. constant_alone [] p id f hit z found is value

pub returns-clause-constants : goal.returns-clause-constants
returns-clause-constants c = constant_together
