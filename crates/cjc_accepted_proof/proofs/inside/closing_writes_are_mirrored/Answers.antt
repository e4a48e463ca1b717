use Rattle.cjc_accepted_proof.proofs.InstructionsLaws.Inside.{closing_write_mirrors}
use Rattle.cjc_accepted_proof.proofs.inside.closing_writes_are_mirrored.Goals as goal

pub returns : goal.returns
returns c = closing_write_mirrors
