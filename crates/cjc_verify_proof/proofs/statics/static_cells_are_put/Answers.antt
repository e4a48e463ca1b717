use Rattle.cjc_verify_proof.proofs.ImageLaws.{puts_cell}
use Rattle.cjc_verify_proof.proofs.statics.static_cells_are_put.Goals as goal

pub returns : goal.returns
returns c = puts_cell
