use Rattle.cjc_int_accepted.proofs.SingleLaws.{arithmetic_stands, increase_stands, load_stands}
use Rattle.cjc_int_accepted.proofs.SingleLaws.{narrowing_stands, negation_stands, nop_stands, null_stands}
use Rattle.cjc_int_accepted.proofs.SingleLaws.{number_stands, store_stands}
use Rattle.cjc_int_accepted.proofs.singles.plain_stretches_stand.Goals as goal

pub returns-clause-nothing : goal.returns-clause-nothing
returns-clause-nothing c = nop_stands

pub returns-clause-null : goal.returns-clause-null
returns-clause-null c = null_stands

pub returns-clause-numbers : goal.returns-clause-numbers
returns-clause-numbers c = number_stands

pub returns-clause-negation : goal.returns-clause-negation
returns-clause-negation c = negation_stands

pub returns-clause-arithmetic : goal.returns-clause-arithmetic
returns-clause-arithmetic c = arithmetic_stands

pub returns-clause-narrowing : goal.returns-clause-narrowing
returns-clause-narrowing c = narrowing_stands

pub returns-clause-loads : goal.returns-clause-loads
returns-clause-loads c = load_stands

pub returns-clause-stores : goal.returns-clause-stores
returns-clause-stores c = store_stands

pub returns-clause-increases : goal.returns-clause-increases
returns-clause-increases c = increase_stands
