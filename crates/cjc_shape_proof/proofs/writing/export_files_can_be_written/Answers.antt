use Rattle.cjc_shape_proof.proofs.writing.export_files_can_be_written.Goals as goal

pub returns : goal.returns
returns c = λ list files judged p is. c.export_files_fit.ensures list files judged p is
    (c.exported_classes_stand.ensures list files judged p is (c.exported_interfaces_stand.ensures list files judged p
    is))
