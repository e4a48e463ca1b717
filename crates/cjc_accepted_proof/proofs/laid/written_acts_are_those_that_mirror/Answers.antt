use Rattle.cjc_accepted_proof.proofs.InstructionsLaws.Acts.{arithmetic_written, increase_written, load_written}
use Rattle.cjc_accepted_proof.proofs.InstructionsLaws.Acts.{narrowing_written, negation_written, null_written}
use Rattle.cjc_accepted_proof.proofs.InstructionsLaws.Acts.{number_written, stack_written, store_written}
use Rattle.cjc_accepted_proof.proofs.laid.written_acts_are_those_that_mirror.Goals as goal

pub returns-clause-null : goal.returns-clause-null
returns-clause-null c = null_written

pub returns-clause-number : goal.returns-clause-number
returns-clause-number c = number_written

pub returns-clause-loads : goal.returns-clause-loads
returns-clause-loads c = load_written

pub returns-clause-stores : goal.returns-clause-stores
returns-clause-stores c = store_written

pub returns-clause-increases : goal.returns-clause-increases
returns-clause-increases c = increase_written

pub returns-clause-negation : goal.returns-clause-negation
returns-clause-negation c = negation_written

pub returns-clause-arithmetic : goal.returns-clause-arithmetic
returns-clause-arithmetic c = arithmetic_written

pub returns-clause-narrowing : goal.returns-clause-narrowing
returns-clause-narrowing c = narrowing_written

pub returns-clause-stack : goal.returns-clause-stack
returns-clause-stack c = stack_written
