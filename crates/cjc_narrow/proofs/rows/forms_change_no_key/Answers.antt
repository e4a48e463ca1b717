use Rattle.cjc_narrow.proofs.RowsLaws.Handlers.{forms_only}
use Rattle.cjc_narrow.specs.Written.Rows.{rows_by}
use Rattle.cjc_narrow.proofs.rows.forms_change_no_key.Goals as goal

pub returns : goal.returns
returns c r near b reached = forms_only b (rows_by reached) r near
