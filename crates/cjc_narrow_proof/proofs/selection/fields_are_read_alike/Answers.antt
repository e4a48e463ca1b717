use Rattle.cjc_narrow_proof.proofs.SelectionLaws.Gets.{getfield}
use Rattle.cjc_narrow_proof.proofs.selection.fields_are_read_alike.Goals as goal

pub returns : goal.returns
returns c = getfield
