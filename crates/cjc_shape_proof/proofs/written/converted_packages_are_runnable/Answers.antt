use Rattle.cjc_shape_proof.proofs.WrittenLaws.Files.{is_checked, own_image, own_methods}
use Rattle.cjc_shape_proof.proofs.WrittenLaws.Made.{ordered_at, small_by, whole_at}
use Rattle.cjc_shape_proof.proofs.written.converted_packages_are_runnable.Goals as goal

pub returns : goal.returns
returns c = λ list files judged p is there. c.checked_packages_are_runnable.ensures list judged.codes p
    (is_checked list files judged p is) (own_image list files judged p is) (own_methods list files judged p is)
    (c.converted_methods_are_ready.ensures list files judged p is there)
    (small_by p (whole_at list files judged is.sound p (c.packages_in_short_mode_are_as_before.ensures.by_modes list
    files judged is.sound p is.is_package) c.methods_can_be_laid_out.ensures) is.sizes)
    (ordered_at list files judged p is)
