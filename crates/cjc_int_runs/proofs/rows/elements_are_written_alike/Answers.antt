use Rattle.cjc_int_runs.proofs.ArrayStores.{bastore, sastore, iastore}
use Rattle.cjc_int_runs.proofs.rows.elements_are_written_alike.Goals as goal

pub returns-clause-bastore : goal.returns-clause-bastore
returns-clause-bastore c = bastore

pub returns-clause-sastore : goal.returns-clause-sastore
returns-clause-sastore c = sastore

pub returns-clause-iastore : goal.returns-clause-iastore
returns-clause-iastore c = iastore
