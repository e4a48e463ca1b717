use Rattle.cjc_int_runs.proofs.StaticsRead.{getstatic, getconstant}
use Rattle.cjc_int_runs.proofs.rows.static_fields_are_read_alike.Goals as goal

pub returns-clause-cell : goal.returns-clause-cell
returns-clause-cell c = getstatic

pub returns-clause-constant : goal.returns-clause-constant
returns-clause-constant c = getconstant
