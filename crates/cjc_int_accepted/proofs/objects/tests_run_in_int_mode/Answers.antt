use Rattle.cjc_int_accepted.proofs.RowsLaws.Objects.{ask_runs, cast_runs, length_runs, throw_runs}
use Rattle.cjc_int_accepted.proofs.objects.tests_run_in_int_mode.Goals as goal

pub returns-clause-lengths : goal.returns-clause-lengths
returns-clause-lengths c = length_runs

pub returns-clause-casts : goal.returns-clause-casts
returns-clause-casts c = cast_runs

pub returns-clause-asks : goal.returns-clause-asks
returns-clause-asks c = ask_runs

pub returns-clause-throws : goal.returns-clause-throws
returns-clause-throws c = throw_runs
