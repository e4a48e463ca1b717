use Rattle.cjc_world_proof.proofs.InitialisersLaws.Cells.{image-reached}
use Rattle.cjc_world_proof.proofs.initialisers.images_are_reached.Goals as goal

pub returns : goal.returns
returns c = image-reached
