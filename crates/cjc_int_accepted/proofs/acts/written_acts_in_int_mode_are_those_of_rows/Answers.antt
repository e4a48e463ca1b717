use Rattle.cjc_int_accepted.proofs.ActsLaws.{arithmetic_act, increase_act, loads_written, negation_act, number_act}
use Rattle.cjc_int_accepted.proofs.ActsLaws.{stores_written}
use Rattle.cjc_int_accepted.proofs.acts.written_acts_in_int_mode_are_those_of_rows.Goals as goal

pub returns-clause-numbers : goal.returns-clause-numbers
returns-clause-numbers c = number_act

pub returns-clause-loads : goal.returns-clause-loads
returns-clause-loads c = loads_written

pub returns-clause-stores : goal.returns-clause-stores
returns-clause-stores c = stores_written

pub returns-clause-increases : goal.returns-clause-increases
returns-clause-increases c = increase_act

pub returns-clause-negation : goal.returns-clause-negation
returns-clause-negation c = negation_act

pub returns-clause-arithmetic : goal.returns-clause-arithmetic
returns-clause-arithmetic c = arithmetic_act
