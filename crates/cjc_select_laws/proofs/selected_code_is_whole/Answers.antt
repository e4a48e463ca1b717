use Rattle.cjc_select_laws.proofs.Whole.{selected_whole}
use Rattle.cjc_select_laws.proofs.selected_code_is_whole.Goals as goal

pub returns : goal.returns
returns c = λ files code class method tree is rows least near. selected_whole files code class method tree is rows least near
