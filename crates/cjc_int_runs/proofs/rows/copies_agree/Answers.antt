use Rattle.cjc_int_runs.proofs.Stacks.{dup, dup_x1, dup_x2, dup2, dup2_x1, dup2_x2}
use Rattle.cjc_int_runs.proofs.rows.copies_agree.Goals as goal

pub returns-clause-dup : goal.returns-clause-dup
returns-clause-dup c = dup

pub returns-clause-dup_x1 : goal.returns-clause-dup_x1
returns-clause-dup_x1 c = dup_x1

pub returns-clause-dup_x2 : goal.returns-clause-dup_x2
returns-clause-dup_x2 c = dup_x2

pub returns-clause-dup2 : goal.returns-clause-dup2
returns-clause-dup2 c = dup2

pub returns-clause-dup2_x1 : goal.returns-clause-dup2_x1
returns-clause-dup2_x1 c = dup2_x1

pub returns-clause-dup2_x2 : goal.returns-clause-dup2_x2
returns-clause-dup2_x2 c = dup2_x2
