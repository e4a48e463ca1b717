use Rattle.cjc_by_token.proofs.Cells.{cells_agree}
use Rattle.cjc_by_token.proofs.static_fields_agree.Goals as goal

pub returns : goal.returns
returns c = cells_agree
