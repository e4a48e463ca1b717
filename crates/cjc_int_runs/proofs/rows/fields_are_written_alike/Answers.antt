use Rattle.cjc_int_runs.proofs.FieldsPut.{putfield, putstatic}
use Rattle.cjc_int_runs.proofs.rows.fields_are_written_alike.Goals as goal

pub returns-clause-putfield : goal.returns-clause-putfield
returns-clause-putfield c = putfield

pub returns-clause-putstatic : goal.returns-clause-putstatic
returns-clause-putstatic c = putstatic
