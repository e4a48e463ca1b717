use Rattle.cjc_int_runs.proofs.FieldsRead.{getfield, arraylength}
use Rattle.cjc_int_runs.proofs.rows.objects_are_read_alike.Goals as goal

pub returns-clause-getfield : goal.returns-clause-getfield
returns-clause-getfield c = getfield

pub returns-clause-arraylength : goal.returns-clause-arraylength
returns-clause-arraylength c = arraylength
