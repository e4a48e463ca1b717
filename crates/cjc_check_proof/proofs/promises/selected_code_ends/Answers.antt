use Rattle.cjc_check_proof.proofs.PromisesLaws.Ending.{selected_ends}
use Rattle.cjc_check_proof.proofs.promises.selected_code_ends.Goals as goal

pub returns : goal.returns
returns c files code class method tree is rows least some near = selected_ends files code class method tree is rows
    least some near
