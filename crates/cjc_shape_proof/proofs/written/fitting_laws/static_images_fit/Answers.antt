use Rattle.cjc_shape_proof.proofs.WrittenLaws.FittingLaws.Limited.{image_fits}
use Rattle.cjc_shape_proof.proofs.written.fitting_laws.static_images_fit.Goals as goal

pub returns : goal.returns
returns c = λ list files judged p is. image_fits list files judged p is
