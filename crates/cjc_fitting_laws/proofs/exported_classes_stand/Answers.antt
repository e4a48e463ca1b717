use Rattle.cjc_fitting_laws.proofs.ClassMethods.{classes_stand}
use Rattle.cjc_fitting_laws.proofs.exported_classes_stand.Goals as goal

pub returns : goal.returns
returns c = λ list files judged p is interfaces. classes_stand list files judged p is interfaces
