use Rattle.cjc_int_accepted.proofs.RowsLaws.Plain.{pairs_run, table_runs}
use Rattle.cjc_int_accepted.proofs.jumps.switches_run_in_int_mode.Goals as goal

pub returns-clause-tables : goal.returns-clause-tables
returns-clause-tables c = table_runs

pub returns-clause-matches : goal.returns-clause-matches
returns-clause-matches c = pairs_run
