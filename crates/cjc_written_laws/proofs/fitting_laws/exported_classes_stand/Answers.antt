use Rattle.cjc_written_laws.proofs.FittingLaws.ClassMethods.{classes_stand}
use Rattle.cjc_written_laws.proofs.fitting_laws.exported_classes_stand.Goals as goal

pub returns : goal.returns
returns c = λ list files judged p is interfaces. classes_stand list files judged p is interfaces
