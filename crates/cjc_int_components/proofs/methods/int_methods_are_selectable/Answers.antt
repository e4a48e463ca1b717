use Rattle.cjc_int_components.proofs.Selectable.{int_selectable}
use Rattle.cjc_int_components.proofs.methods.int_methods_are_selectable.Goals as goal

pub returns : goal.returns
returns c = int_selectable
