use Rattle.cjc_narrow_proof.proofs.SelectedLaws.Whole.{selected_whole}
use Rattle.cjc_narrow_proof.proofs.selected.selected_code_is_whole.Goals as goal

pub returns : goal.returns
returns c = λ files code class method tree is rows least near. selected_whole files code class method tree is rows least
    near
