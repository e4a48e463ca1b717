use Rattle.cjc_int_accepted.proofs.WrittenLaws.{arithmetic_acts, increase_acts, load_acts, narrowing_acts}
use Rattle.cjc_int_accepted.proofs.WrittenLaws.{negation_acts, nop_acts, null_acts, number_acts, store_acts}
use Rattle.cjc_int_accepted.proofs.written.plain_instructions_are_written_with_their_acts.Goals as goal

pub returns-clause-nothing : goal.returns-clause-nothing
returns-clause-nothing c = nop_acts

pub returns-clause-null : goal.returns-clause-null
returns-clause-null c = null_acts

pub returns-clause-numbers : goal.returns-clause-numbers
returns-clause-numbers c = number_acts

pub returns-clause-loads : goal.returns-clause-loads
returns-clause-loads c = load_acts

pub returns-clause-stores : goal.returns-clause-stores
returns-clause-stores c = store_acts

pub returns-clause-increases : goal.returns-clause-increases
returns-clause-increases c = increase_acts

pub returns-clause-negation : goal.returns-clause-negation
returns-clause-negation c = negation_acts

pub returns-clause-arithmetic : goal.returns-clause-arithmetic
returns-clause-arithmetic c = arithmetic_acts

pub returns-clause-narrowing : goal.returns-clause-narrowing
returns-clause-narrowing c = narrowing_acts
