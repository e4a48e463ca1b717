use Rattle.std.proofs.Common.{refl}
use Rattle.cjc_capwrite.specs.Class.{class_entry_bytes}
use Rattle.cjc_first.proofs.worked.worked_items_are_found.Goals as goal

pub returns-clause-subclass : goal.returns-clause-subclass
unfolding class_entry_bytes
returns-clause-subclass c = refl
