use Rattle.cjc_narrow_proof.proofs.SelectedLaws.Decoded.{operands_fit}
use Rattle.cjc_narrow_proof.proofs.selected.decoded_operands_fit.Goals as goal

pub returns : goal.returns
returns c = operands_fit
