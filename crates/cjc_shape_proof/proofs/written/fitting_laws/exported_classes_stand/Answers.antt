use Rattle.cjc_shape_proof.proofs.WrittenLaws.FittingLaws.ClassMethods.{classes_stand}
use Rattle.cjc_shape_proof.proofs.written.fitting_laws.exported_classes_stand.Goals as goal

pub returns : goal.returns
returns c = λ list files judged p is interfaces. classes_stand list files judged p is interfaces
