use Rattle.cjc_narrow_proof.proofs.SelectionLaws.Types.{types_stay}
use Rattle.cjc_narrow_proof.proofs.selection.types_stay.Goals as goal

pub returns : goal.returns
returns c = types_stay
