use Rattle.cjc_narrow_proof.proofs.SelectedLaws.Selectable.{selectable}
use Rattle.cjc_narrow_proof.proofs.selected.methods_are_selectable.Goals as goal

pub returns : goal.returns
returns c = λ files code class method tree is bytes spelt list codes settings rows least keeps. selectable files code
    class method tree is bytes spelt list codes settings rows least keeps
