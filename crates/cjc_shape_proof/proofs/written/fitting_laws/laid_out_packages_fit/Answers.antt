use Rattle.cjc_check_proof.proofs.LimitsLaws.Methods.{widest_low}
use Rattle.cjc_shape_proof.proofs.WrittenLaws.FittingLaws.Limited.{limited, methods_short}
use Rattle.cjc_shape_proof.proofs.WrittenLaws.FittingLaws.Sizes.{entries_few, sizes_kept}
use Rattle.cjc_shape_proof.proofs.written.fitting_laws.laid_out_packages_fit.Goals as goal

pub returns-clause-limited : goal.returns-clause-limited
returns-clause-limited c = λ list files judged p is sizes. limited list files judged p is c.few_classes.ensures sizes

pub returns-clause-writable : goal.returns-clause-writable
returns-clause-writable c = λ list files judged p is counted none. c.components_fit.ensures.all p
    (limited list files judged p is c.few_classes.ensures (sizes_kept p counted none))

pub returns-clause-method : goal.returns-clause-method
returns-clause-method c = λ list files judged p is counted. widest_low p (entries_few p is.forms)
    (methods_short list files judged p is) counted
