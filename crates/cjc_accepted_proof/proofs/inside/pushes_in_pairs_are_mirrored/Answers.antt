use Rattle.cjc_accepted_proof.proofs.InstructionsLaws.Inside.{pushing_inside}
use Rattle.cjc_accepted_proof.proofs.inside.pushes_in_pairs_are_mirrored.Goals as goal

pub returns : goal.returns
returns c = pushing_inside
