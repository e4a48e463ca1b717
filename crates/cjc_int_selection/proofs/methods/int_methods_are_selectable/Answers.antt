use Rattle.cjc_int_selection.proofs.Selectable.{int_selectable}
use Rattle.cjc_int_selection.proofs.methods.int_methods_are_selectable.Goals as goal

pub returns : goal.returns
returns c = int_selectable
