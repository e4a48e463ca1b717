use Rattle.cjc_clinit_laws.proofs.Cells.{image-reached}
use Rattle.cjc_clinit_laws.proofs.images_are_reached.Goals as goal

pub returns : goal.returns
returns c = image-reached
