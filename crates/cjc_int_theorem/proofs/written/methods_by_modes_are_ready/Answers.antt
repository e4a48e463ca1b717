use Rattle.cjc_check_proof.specs.TokenProof.Tables.Loading.{loaded, naming}
use Rattle.cjc_components.specs.Names.{pool_entries}
use Rattle.cjc_int_components.proofs.Made.{all_lie, all_written}
use Rattle.cjc_shape_proof.proofs.WrittenLaws.Ready.{one_ready}
use Rattle.cjc_int_theorem.proofs.Methods.{all_made}
use Rattle.cjc_int_theorem.proofs.written.methods_by_modes_are_ready.Goals as goal

pub returns : goal.returns
returns c = λ list codes t p is there k m e.
    let made = all_made list codes t p is (loaded p) (pool_entries p) in
    one_ready (naming p) m (all_written (naming p) p.files p.methods made k m e)
    (all_lie (naming p) p.files p.methods made k m e) (λ j i f. there.names k m e j i f)
    (λ j d f. there.catches k m e j d f)
