use Rattle.cjc_int_accepted.proofs.RowsLaws.Objects.{new_runs, numbers_made, references_made}
use Rattle.cjc_int_accepted.proofs.objects.makings_run_in_int_mode.Goals as goal

pub returns-clause-objects : goal.returns-clause-objects
returns-clause-objects c = new_runs

pub returns-clause-numbers : goal.returns-clause-numbers
returns-clause-numbers c = numbers_made

pub returns-clause-references : goal.returns-clause-references
returns-clause-references c = references_made
