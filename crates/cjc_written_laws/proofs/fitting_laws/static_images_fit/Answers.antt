use Rattle.cjc_written_laws.proofs.FittingLaws.Limited.{image_fits}
use Rattle.cjc_written_laws.proofs.fitting_laws.static_images_fit.Goals as goal

pub returns : goal.returns
returns c = λ list files judged p is. image_fits list files judged p is
