use Rattle.cjc_shape_proof.proofs.WritingLaws.Sizes.{limit_kept, widest_kept}
use Rattle.cjc_shape_proof.proofs.writing.components_can_be_written.Goals as goal

pub returns-clause-limits : goal.returns-clause-limits
returns-clause-limits c = λ p kept. limit_kept p kept

pub returns-clause-writable : goal.returns-clause-writable
returns-clause-writable c = λ list files judged p is kept. c.laid_out_packages_fit.ensures.writable list files judged p
    is (widest_kept p kept) (limit_kept p kept)

pub returns-clause-method : goal.returns-clause-method
returns-clause-method c = λ list files judged p is kept. c.laid_out_packages_fit.ensures.method list files judged p is
    (widest_kept p kept)
