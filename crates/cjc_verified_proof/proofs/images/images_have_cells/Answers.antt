use Rattle.cjc_verified_proof.proofs.ImageFitsLaws.{image_fits}
use Rattle.cjc_verified_proof.proofs.images.images_have_cells.Goals as goal

pub returns : goal.returns
returns c = image_fits
