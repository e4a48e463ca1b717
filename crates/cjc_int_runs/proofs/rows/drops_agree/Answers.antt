use Rattle.cjc_int_runs.proofs.Stacks.{pop, pop2, swap}
use Rattle.cjc_int_runs.proofs.rows.drops_agree.Goals as goal

pub returns-clause-pop : goal.returns-clause-pop
returns-clause-pop c = pop

pub returns-clause-pop2 : goal.returns-clause-pop2
returns-clause-pop2 c = pop2

pub returns-clause-swap : goal.returns-clause-swap
returns-clause-swap c = swap
