use Rattle.cjc_int_accepted.proofs.RowsLaws.Plain.{goto_runs, nop_runs, null_runs, number_runs}
use Rattle.cjc_int_accepted.proofs.constants.constants_run_in_int_mode.Goals as goal

pub returns-clause-nothing : goal.returns-clause-nothing
returns-clause-nothing c = nop_runs

pub returns-clause-null : goal.returns-clause-null
returns-clause-null c = null_runs

pub returns-clause-numbers : goal.returns-clause-numbers
returns-clause-numbers c = number_runs

pub returns-clause-gotos : goal.returns-clause-gotos
returns-clause-gotos c = goto_runs
