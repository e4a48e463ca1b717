use Rattle.cjc_int_accepted.proofs.RowsLaws.Plain.{arithmetic_runs, narrowing_runs, negation_runs}
use Rattle.cjc_int_accepted.proofs.constants.arithmetic_runs_in_int_mode.Goals as goal

pub returns-clause-negation : goal.returns-clause-negation
returns-clause-negation c = negation_runs

pub returns-clause-arithmetic : goal.returns-clause-arithmetic
returns-clause-arithmetic c = arithmetic_runs

pub returns-clause-narrowing : goal.returns-clause-narrowing
returns-clause-narrowing c = narrowing_runs
