use Rattle.cjc_joint_proof.proofs.NamingLaws.{fits, formed, is_class}
use Rattle.cjc_joint_proof.proofs.naming.names_stay.Goals as goal

pub returns-clause-classes : goal.returns-clause-classes
returns-clause-classes c = is_class

pub returns-clause-entries : goal.returns-clause-entries
returns-clause-entries c = λ group q n first h each how key f. fits group q n first h each f

pub returns-clause-instructions : goal.returns-clause-instructions
returns-clause-instructions c = λ group q n first h each insn f. formed group q n first h each f
