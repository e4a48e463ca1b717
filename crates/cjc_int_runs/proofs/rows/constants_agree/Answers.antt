use Rattle.cjc_int_runs.proofs.Constants.{nothing, aconst_null, constant}
use Rattle.cjc_int_runs.proofs.rows.constants_agree.Goals as goal

pub returns-clause-nop : goal.returns-clause-nop
returns-clause-nop c = nothing

pub returns-clause-aconst_null : goal.returns-clause-aconst_null
returns-clause-aconst_null c = aconst_null

pub returns-clause-number : goal.returns-clause-number
returns-clause-number c = constant
