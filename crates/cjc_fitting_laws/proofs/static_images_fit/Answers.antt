use Rattle.cjc_fitting_laws.proofs.Limited.{image_fits}
use Rattle.cjc_fitting_laws.proofs.static_images_fit.Goals as goal

pub returns : goal.returns
returns c = λ list files judged p is. image_fits list files judged p is
