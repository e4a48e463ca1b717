use Rattle.cjc_int_accepted.proofs.WrittenLaws.{dup2_acts, dup2_x1_acts, dup2_x2_acts, dup_acts, dup_x1_acts}
use Rattle.cjc_int_accepted.proofs.WrittenLaws.{dup_x2_acts, pop2_acts, pop_acts, swap_acts}
use Rattle.cjc_int_accepted.proofs.written.stack_instructions_are_written_with_their_acts.Goals as goal

pub returns-clause-pop : goal.returns-clause-pop
returns-clause-pop c = pop_acts

pub returns-clause-pop2 : goal.returns-clause-pop2
returns-clause-pop2 c = pop2_acts

pub returns-clause-dup : goal.returns-clause-dup
returns-clause-dup c = dup_acts

pub returns-clause-dup2 : goal.returns-clause-dup2
returns-clause-dup2 c = dup2_acts

pub returns-clause-dup_x1 : goal.returns-clause-dup_x1
returns-clause-dup_x1 c = dup_x1_acts

pub returns-clause-dup_x2 : goal.returns-clause-dup_x2
returns-clause-dup_x2 c = dup_x2_acts

pub returns-clause-dup2_x1 : goal.returns-clause-dup2_x1
returns-clause-dup2_x1 c = dup2_x1_acts

pub returns-clause-dup2_x2 : goal.returns-clause-dup2_x2
returns-clause-dup2_x2 c = dup2_x2_acts

pub returns-clause-swap : goal.returns-clause-swap
returns-clause-swap c = swap_acts
