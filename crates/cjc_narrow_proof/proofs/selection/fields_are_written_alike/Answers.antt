use Rattle.cjc_narrow_proof.proofs.SelectionLaws.Puts.{putfield}
use Rattle.cjc_narrow_proof.proofs.selection.fields_are_written_alike.Goals as goal

pub returns : goal.returns
returns c = putfield
