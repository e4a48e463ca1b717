use Rattle.cjc_int_accepted.proofs.RowsLaws.Plain.{compare_runs, reference_runs, references_run, zero_runs}
use Rattle.cjc_int_accepted.proofs.jumps.jumps_run_in_int_mode.Goals as goal

pub returns-clause-references : goal.returns-clause-references
returns-clause-references c = reference_runs

pub returns-clause-pairs_of_references : goal.returns-clause-pairs_of_references
returns-clause-pairs_of_references c = references_run

pub returns-clause-numbers : goal.returns-clause-numbers
returns-clause-numbers c = zero_runs

pub returns-clause-pairs_of_numbers : goal.returns-clause-pairs_of_numbers
returns-clause-pairs_of_numbers c = compare_runs
