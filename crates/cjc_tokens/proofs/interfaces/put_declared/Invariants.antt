use Rattle.std.proofs.Common.{◌≡◌, map, drop}
use Rattle.cjc_world.specs.Classes.{method_of_class}
use Rattle.cjc_world.specs.Added.{without_initialiser}
use Rattle.cjc_tokens.specs.Members.{signature_of}
use Rattle.cjc_tokens.specs.Slots.{with_new}
use Rattle.cjc_tokens.specs.Working.{signs}
use Rattle.cjc_tokens.proofs.interfaces.put_declared.Given as goal

abbrev pub invariant-loop-method : goal.invariant-loop-method
invariant-loop-method l =
    with_new (signs l.row.items)
    (map signature_of (without_initialiser (map method_of_class (drop l.method-index l.methods))))
    ≡ with_new (signs l.initial.row.items) (map signature_of (without_initialiser (map method_of_class l.methods)))
