use Rattle.cjc_int_accepted.proofs.RowsLaws.Objects.{nothing_returned, value_returned}
use Rattle.cjc_int_accepted.proofs.values.returns_run_in_int_mode.Goals as goal

pub returns-clause-values : goal.returns-clause-values
returns-clause-values c = value_returned

pub returns-clause-nothing : goal.returns-clause-nothing
returns-clause-nothing c = nothing_returned
