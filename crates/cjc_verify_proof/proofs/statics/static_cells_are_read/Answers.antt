use Rattle.cjc_verify_proof.proofs.ImageLaws.{gets_cell}
use Rattle.cjc_verify_proof.proofs.statics.static_cells_are_read.Goals as goal

pub returns : goal.returns
returns c = gets_cell
