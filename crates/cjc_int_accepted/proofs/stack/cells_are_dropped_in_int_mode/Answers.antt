use Rattle.cjc_int_accepted.proofs.RowsLaws.Stack.{pop2_runs, pop_runs}
use Rattle.cjc_int_accepted.proofs.stack.cells_are_dropped_in_int_mode.Goals as goal

pub returns-clause-one : goal.returns-clause-one
returns-clause-one c = pop_runs

pub returns-clause-two : goal.returns-clause-two
returns-clause-two c = pop2_runs
