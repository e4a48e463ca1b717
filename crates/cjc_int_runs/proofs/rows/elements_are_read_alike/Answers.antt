use Rattle.cjc_int_runs.proofs.ArrayLoads.{baload, saload, iaload}
use Rattle.cjc_int_runs.proofs.rows.elements_are_read_alike.Goals as goal

pub returns-clause-baload : goal.returns-clause-baload
returns-clause-baload c = baload

pub returns-clause-saload : goal.returns-clause-saload
returns-clause-saload c = saload

pub returns-clause-iaload : goal.returns-clause-iaload
returns-clause-iaload c = iaload
