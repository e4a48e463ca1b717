use Rattle.cjc_shape_proof.proofs.WrittenLaws.FittingLaws.Exportable.{classes_stand, exportable}
use Rattle.cjc_shape_proof.proofs.written.fitting_laws.export_files_fit.Goals as goal

pub returns : goal.returns
returns c = λ list files judged p is methods. c.export_file_fits.ensures p (exportable list files judged p is)
    (classes_stand list files judged p is methods)
