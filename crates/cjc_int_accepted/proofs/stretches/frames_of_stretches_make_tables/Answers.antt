use Rattle.cjc_int_accepted.proofs.StretchesLaws.{table_closed, table_unbroken}
use Rattle.cjc_int_accepted.proofs.stretches.frames_of_stretches_make_tables.Goals as goal

pub returns-clause-closed : goal.returns-clause-closed
returns-clause-closed c = table_closed

pub returns-clause-unbroken : goal.returns-clause-unbroken
returns-clause-unbroken c = table_unbroken
