use Rattle.cjc_int_runs.proofs.ReferenceArrays.{aaload, aastore}
use Rattle.cjc_int_runs.proofs.rows.references_are_met_alike.Goals as goal

pub returns-clause-aaload : goal.returns-clause-aaload
returns-clause-aaload c = aaload

pub returns-clause-aastore : goal.returns-clause-aastore
returns-clause-aastore c = aastore
