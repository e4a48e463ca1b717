use Rattle.std.proofs.Common.{◌≡◌, take, map}
use Rattle.cjc_world.specs.Classes.{all_classes}
use Rattle.cjc_tokens.specs.Working.{signs}
use Rattle.cjc_vtable.specs.Naming.{named_where}
use Rattle.cjc_vtable.proofs.naming.named_row.Given as goal

abbrev pub invariant-loop-method : goal.invariant-loop-method
invariant-loop-method l = signs l.row.items ≡ map (named_where (all_classes l.world)) (take l.method-index l.methods)
