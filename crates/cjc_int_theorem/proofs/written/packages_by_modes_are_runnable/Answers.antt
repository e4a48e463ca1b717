use Rattle.std.proofs.Common.{subst}
use Rattle.cjc_classes.specs.Clinit.Image.{IsImage}
use Rattle.cjc_shape_proof.proofs.WrittenLaws.Coded.{ordered_at}
use Rattle.cjc_int_theorem.proofs.Methods.{are_methods}
use Rattle.cjc_int_theorem.proofs.written.packages_by_modes_are_runnable.Goals as goal

pub returns : goal.returns
returns c = λ list codes t p is there.
    let methods = are_methods list codes t p is in
    let image = subst (λ cs. IsImage p.files cs p.image) is.checked.codes_are is.is_package.image in
    c.checked_packages_are_runnable.ensures list codes p is.checked image methods
    (c.methods_by_modes_are_ready.ensures list codes t p is there)
    (c.methods_by_modes_are_made.ensures.small list codes t p is)
    (ordered_at list codes p is.checked methods is.forms)
