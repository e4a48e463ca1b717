use Rattle.cjc_int_accepted.proofs.RowsLaws.Stack.{dup2_runs, dup2_x1_runs, dup2_x2_runs, dup_runs, dup_x1_runs}
use Rattle.cjc_int_accepted.proofs.RowsLaws.Stack.{dup_x2_runs, swap_both}
use Rattle.cjc_int_accepted.proofs.stack.cells_are_copied_in_int_mode.Goals as goal

pub returns-clause-dup : goal.returns-clause-dup
returns-clause-dup c = dup_runs

pub returns-clause-dup2 : goal.returns-clause-dup2
returns-clause-dup2 c = dup2_runs

pub returns-clause-dup_x1 : goal.returns-clause-dup_x1
returns-clause-dup_x1 c = dup_x1_runs

pub returns-clause-dup_x2 : goal.returns-clause-dup_x2
returns-clause-dup_x2 c = dup_x2_runs

pub returns-clause-dup2_x1 : goal.returns-clause-dup2_x1
returns-clause-dup2_x1 c = dup2_x1_runs

pub returns-clause-dup2_x2 : goal.returns-clause-dup2_x2
returns-clause-dup2_x2 c = dup2_x2_runs

pub returns-clause-swap : goal.returns-clause-swap
returns-clause-swap c = swap_both
